use Rattle.std.proofs.Common.{ℕ, List, true, false, ◌≡◌, ◌≤◌, arith, length, refl, sym, ap, ◌∙◌}
use Rattle.answer.specs.Answer.{on_accepted}
use Rattle.omnistat.specs.declared.frame.End.TheVariants.{Thermostat}
use Rattle.omnistat.specs.Omnistat.{read}
use Rattle.thermostat.specs.Step.{done, step}
use Rattle.thermostat.specs.Texts.{store_allowed}
use Rattle.thermostat.proofs.Laws.Step.{too_little_room, wrong_map, wrong_texts, wrong_address, store_refused, after_checks, promised_as, promised_in, refused_in, when_refused}
use Rattle.thermostat.proofs.step.step.Goals as goal

pub returns-then-out-lt-LEAST_ROOM : goal.returns-then-out-lt-LEAST_ROOM
returns-then-out-lt-LEAST_ROOM c =
    let a = c.args in
    let w = when_refused a.map.now a.texts.now a.out.now (step a.own a.map.now a.texts.now a.bytes.now (length a.out.now)) 9 (too_little_room a.own a.map.now a.texts.now a.bytes.now (length a.out.now) c.if-out-lt-LEAST_ROOM.true) in
    record { result_value = w.0; map_after = w.1.0; texts_after = w.1.1.0; out_after = w.1.1.1 }

pub returns-in_default : goal.returns-in_default
returns-in_default c =
    let a = c.args in
    let w = refused_in a.map.now a.texts.now a.out.now a.map.now a.texts.now refl refl (step a.own a.map.now a.texts.now a.bytes.now (length a.out.now)) 9
    (wrong_map a.own a.map.now a.texts.now a.bytes.now (length a.out.now) c.if-out-lt-LEAST_ROOM.false c.in_default.ensures.cases) in
    record { result_value = w.0; map_after = w.1.0; texts_after = w.1.1.0; out_after = w.1.1.1 }

pub returns-in_default-as_mut_array : goal.returns-in_default-as_mut_array
returns-in_default-as_mut_array c =
    let a = c.args in
    let w = refused_in a.map.now a.texts.now a.out.now c.in-Some.map.now a.texts.now c.in-Some.ensures.cases.same refl (step a.own a.map.now a.texts.now a.bytes.now (length a.out.now)) 9
    (wrong_texts a.own a.map.now a.texts.now a.bytes.now (length a.out.now) c.if-out-lt-LEAST_ROOM.false c.in-Some.ensures.cases.long c.in_default-as_mut_array.ensures.cases) in
    record { result_value = w.0; map_after = w.1.0; texts_after = w.1.1.0; out_after = w.1.1.1 }

pub returns-in_default-new : goal.returns-in_default-new
returns-in_default-new c =
    let a = c.args in
    let w = refused_in a.map.now a.texts.now a.out.now c.in-Some.map.now c.in-Some-as_mut_array.texts.now c.in-Some.ensures.cases.same c.in-Some-as_mut_array.ensures.cases.same (step a.own a.map.now a.texts.now a.bytes.now (length a.out.now)) 8
    (wrong_address a.own a.map.now a.texts.now a.bytes.now (length a.out.now) c.if-out-lt-LEAST_ROOM.false c.in-Some.ensures.cases.long c.in-Some-as_mut_array.ensures.cases.long c.in_default-new.ensures) in
    record { result_value = w.0; map_after = w.1.0; texts_after = w.1.1.0; out_after = w.1.1.1 }

pub returns-then-not-is_allowed : goal.returns-then-not-is_allowed
returns-then-not-is_allowed c =
    let a = c.args in
    let l : 1 ≤ a.own = omega (arith, c.in-Some-new.ensures, c.in-Some-new.own.in_range.0) in
    let h : a.own ≤ 127 = omega (arith, c.in-Some-new.ensures, c.in-Some-new.own.in_range.1) in
    let t : store_allowed a.texts.now ≡ false = ap store_allowed (sym c.in-Some-as_mut_array.ensures.cases.same) ∙ sym c.is_allowed.ensures ∙ c.if-not-is_allowed.true in
    let w = refused_in a.map.now a.texts.now a.out.now c.in-Some.map.now c.in-Some-as_mut_array.texts.now c.in-Some.ensures.cases.same c.in-Some-as_mut_array.ensures.cases.same (step a.own a.map.now a.texts.now a.bytes.now (length a.out.now)) 8
    (store_refused a.own a.map.now a.texts.now a.bytes.now (length a.out.now) c.if-out-lt-LEAST_ROOM.false c.in-Some.ensures.cases.long c.in-Some-as_mut_array.ensures.cases.long l h t) in
    record { result_value = w.0; map_after = w.1.0; texts_after = w.1.1.0; out_after = w.1.1.1 }

pub act-requires-clause-texts_value : goal.act-requires-clause-texts_value
act-requires-clause-texts_value c = sym c.is_allowed.ensures ∙ c.if-not-is_allowed.false

pub returns : goal.returns
returns c =
    let a = c.args in
    let map = c.in-Some in
    let texts = c.in-Some-as_mut_array in
    let own = c.in-Some-new in
    let l : 1 ≤ a.own = omega (arith, c.in-Some-new.ensures, c.in-Some-new.own.in_range.0) in
    let h : a.own ≤ 127 = omega (arith, c.in-Some-new.ensures, c.in-Some-new.own.in_range.1) in
    let t : store_allowed a.texts.now ≡ true = ap store_allowed (sym texts.ensures.cases.same) ∙ sym c.is_allowed.ensures ∙ c.if-not-is_allowed.false in
    let e : step a.own a.map.now a.texts.now a.bytes.now (length a.out.now) ≡ on_accepted (done own.own.number map.map.now texts.texts.now) (read Thermostat a.bytes.now)
    = after_checks a.own a.map.now a.texts.now a.bytes.now (length a.out.now) c.if-out-lt-LEAST_ROOM.false map.ensures.cases.long texts.ensures.cases.long l h t
    ∙ ap (λ (n : ℕ). on_accepted (done n a.map.now a.texts.now) (read Thermostat a.bytes.now)) (sym own.ensures)
    ∙ ap (λ (m : List ℕ). on_accepted (done own.own.number m a.texts.now) (read Thermostat a.bytes.now)) (sym map.ensures.cases.same)
    ∙ ap (λ (x : List ℕ). on_accepted (done own.own.number map.map.now x) (read Thermostat a.bytes.now)) (sym texts.ensures.cases.same) in
    let w = promised_in a.map.now a.texts.now a.out.now map.map.now texts.texts.now map.ensures.cases.same texts.ensures.cases.same (step a.own a.map.now a.texts.now a.bytes.now (length a.out.now)) _ _ _ c.act.new.out
    (promised_as map.map.now texts.texts.now a.out.now (step a.own a.map.now a.texts.now a.bytes.now (length a.out.now)) _ _ _ _ _ e
    (c.act.ensures.result_value, (c.act.ensures.map_after, (c.act.ensures.texts_after, c.act.ensures.out_after)))) in
    record { result_value = w.0; map_after = w.1.0; texts_after = w.1.1.0; out_after = w.1.1.1 }
