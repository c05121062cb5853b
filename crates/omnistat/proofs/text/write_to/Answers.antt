use mathlib.Core.Path.{◌≡◌, sym, ap, ◌∙◌}
use mathlib.Core.List.{[], ◌∷◌, ◌++◌}
use Prim.Native.Nat.{ℕ, ◌+◌, ◌*◌, ◌<◌}
use Rattle.answer.specs.Answer.{accepted}
use native.Mathlib.Omega.{arith}
use borrow.Author.Tests.{not-false}
use mathlib.Core.Bool.{true}
use Rattle.omnistat.specs.Frame.{directed, first_of, summed}
use Rattle.omnistat.specs.declared.frame.End.{End}
use Rattle.omnistat.specs.declared.frame.End.TheVariants.{Thermostat, Host}
use Rattle.omnistat.specs.Text.{Text, text_type, text_allowed, write_text}
use Rattle.omnistat.proofs.Laws.Omnistat.{text_misaddressed, text_not_allowed, text_summed}
use Rattle.omnistat.proofs.Laws.Output.{leaves_refused, leaves_same}
use Rattle.omnistat.proofs.Laws.Text.{allowed_parts}
use Rattle.omnistat.proofs.text.write_to.Goals as goal

text_type_fits : (end : End) → text_type end < 16
text_type_fits Thermostat = omega arith
text_type_fits Host = omega arith

pub returns-then-not-is_address : goal.returns-then-not-is_address
returns-then-not-is_address c =
    let given : Text = record { half = c.args.half; start = c.args.start; characters = c.args.characters.now } in
    let a = c.args in
    let t = given in
    let w = leaves_refused a.out.now (write_text a.end a.address t) 8
    (text_misaddressed a.end a.address t (sym c.is_address.ensures ∙ c.if-not-is_address.true)) in
    record { result_value = w.0; out_after = w.1 }

pub returns-then-not-is_allowed : goal.returns-then-not-is_allowed
returns-then-not-is_allowed c =
    let given : Text = record { half = c.args.half; start = c.args.start; characters = c.args.characters.now } in
    let directed-to : directed c.args.end (first_of c.args.end c.args.address) ≡ true = sym c.is_address.ensures ∙ not-false _ c.if-not-is_address.false-raw in
    let a = c.args in
    let t = given in
    let w = leaves_refused a.out.now (write_text a.end a.address t) 8
    (text_not_allowed a.end a.address t directed-to (sym c.is_allowed.ensures ∙ c.if-not-is_allowed.true)) in
    record { result_value = w.0; out_after = w.1 }

pub length_and_type-second-requires : goal.length_and_type-second-requires
length_and_type-second-requires c =
    let given : Text = record { half = c.args.half; start = c.args.start; characters = c.args.characters.now } in
    let allowed : text_allowed given ≡ true = sym c.is_allowed.ensures ∙ not-false _ c.if-not-is_allowed.false-raw in
    let p = allowed_parts given allowed in
    (omega (arith, text_type_fits c.args.end, c.text_type.ensures), omega (arith, p.0))

pub first_of-first-requires : goal.first_of-first-requires
first_of-first-requires c = sym c.is_address.ensures ∙ not-false _ c.if-not-is_address.false-raw

pub write-requires : goal.write-requires
write-requires c =
    let given : Text = record { half = c.args.half; start = c.args.start; characters = c.args.characters.now } in
    let allowed : text_allowed given ≡ true = sym c.is_allowed.ensures ∙ not-false _ c.if-not-is_allowed.false-raw in
    (allowed_parts given allowed).2

pub returns : goal.returns
returns c =
    let given : Text = record { half = c.args.half; start = c.args.start; characters = c.args.characters.now } in
    let directed-to : directed c.args.end (first_of c.args.end c.args.address) ≡ true = sym c.is_address.ensures ∙ not-false _ c.if-not-is_address.false-raw in
    let allowed : text_allowed given ≡ true = sym c.is_allowed.ensures ∙ not-false _ c.if-not-is_allowed.false-raw in
    let a = c.args in
    let t = given in
    let second = c.length_and_type-second in
    let w = leaves_same a.out.now (write_text a.end a.address t) _ _ _
    (text_summed a.end a.address t directed-to allowed second.result (second.ensures ∙ ap (λ (kind : ℕ). a.half * 16 + kind) c.text_type.ensures)
    ∙ ap (λ (first : ℕ). accepted (summed (first ∷ second.result ∷ a.start ∷ (a.characters.now ++ (3 ∷ []))))) (sym c.first_of-first.ensures))
    (c.write.ensures.result_value, c.write.ensures.out_after) in
    record { result_value = w.0; out_after = w.1 }
