use native.Mathlib.Omega.{arith}
use mathlib.Core.Path.{refl, sym, ◌∙◌}
use Rattle.omnistat.specs.Message.{acknowledge}
use Rattle.omnistat.specs.Omnistat.{counted}
use Rattle.thermostat.specs.Texts.{text_stored}
use Rattle.thermostat.proofs.Laws.Step.{acknowledge_made, replied, unheard, unheard_after, heard_after, unanswered, answered}
use Rattle.thermostat.proofs.step.on_text.Goals as goal

pub returns-then-not-is_heard : goal.returns-then-not-is_heard
returns-then-not-is_heard c =
    let a = c.args in
    let e = sym c.is_heard.ensures ∙ c.if-not-is_heard.true in
    let s = unheard a.own.number a.first (counted acknowledge) a.out.now e in record {
      result_value = s.0;
      texts_after = sym (unheard_after a.own.number a.first (text_stored a.texts.now a.start a.characters.now) a.texts.now e);
      out_after = s.1;
    }

pub returns-then-first-eq-BROADCAST : goal.returns-then-first-eq-BROADCAST
returns-then-first-eq-BROADCAST c =
    let a = c.args in
    let e = sym c.is_heard.ensures ∙ c.if-not-is_heard.false in
    let s = unanswered a.own.number a.first (counted acknowledge) a.out.now e c.if-first-eq-BROADCAST.true in record {
      result_value = s.0;
      texts_after = c.store_text.ensures ∙ sym (heard_after a.own.number a.first (text_stored a.texts.now a.start a.characters.now) a.texts.now e);
      out_after = s.1;
    }

pub returns : goal.returns
returns c =
    let a = c.args in
    let e = sym c.is_heard.ensures ∙ c.if-not-is_heard.false in
    let s =
    answered a.own.number a.first (counted acknowledge) a.out.now e c.if-first-eq-BROADCAST.false _ _
    (replied a.own.number a.own.in_range.0 a.own.in_range.1 a.out.now (omega arith) acknowledge acknowledge refl acknowledge_made _ _
    (c.write_acknowledge.ensures.result_value, c.write_acknowledge.ensures.out_after)) in record {
      result_value = s.0;
      texts_after = c.store_text.ensures ∙ sym (heard_after a.own.number a.first (text_stored a.texts.now a.start a.characters.now) a.texts.now e);
      out_after = s.1;
    }
