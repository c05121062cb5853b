use mathlib.Core.Path.{sym, ◌∙◌}
use Rattle.omnistat.specs.Message.{set_from}
use Rattle.omnistat.specs.Omnistat.{counted}
use Rattle.thermostat.specs.Step.{register_reply, changed}
use Rattle.thermostat.proofs.Laws.Step.{confirmed, unheard, unheard_after, heard_after, unanswered, answered}
use Rattle.thermostat.proofs.step.on_set.Goals as goal

pub returns-then-not-is_heard : goal.returns-then-not-is_heard
returns-then-not-is_heard c =
    let a = c.args in
    let m = c.args.map.now in
    let q = set_from a.start a.values.now in
    let e = sym c.is_heard.ensures ∙ c.if-not-is_heard.true in
    let s = unheard a.own.number a.first (counted (register_reply m q)) a.out.now e in record {
      result_value = s.0;
      map_after = sym (unheard_after a.own.number a.first (changed m (counted q)) m e);
      out_after = s.1;
    }

pub returns-then-first-eq-BROADCAST : goal.returns-then-first-eq-BROADCAST
returns-then-first-eq-BROADCAST c =
    let a = c.args in
    let m = c.args.map.now in
    let q = set_from a.start a.values.now in
    let e = sym c.is_heard.ensures ∙ c.if-not-is_heard.false in
    let s = unanswered a.own.number a.first (counted (register_reply m q)) a.out.now e c.if-first-eq-BROADCAST.true in record {
      result_value = s.0;
      map_after = c.change-taken.ensures.map_after ∙ sym (heard_after a.own.number a.first (changed m (counted q)) m e);
      out_after = s.1;
    }

pub returns : goal.returns
returns c =
    let a = c.args in
    let m = c.args.map.now in
    let q = set_from a.start a.values.now in
    let e = sym c.is_heard.ensures ∙ c.if-not-is_heard.false in
    let changes = c.change-taken in
    let s =
    answered a.own.number a.first (counted (register_reply m q)) a.out.now e c.if-first-eq-BROADCAST.false _ _
    (confirmed a.own.number a.start m a.values.now a.out.now changes.result changes.ensures.value _ _ (c.confirm.ensures.result_value, c.confirm.ensures.out_after)) in record {
      result_value = s.0;
      map_after = changes.ensures.map_after ∙ sym (heard_after a.own.number a.first (changed m (counted q)) m e);
      out_after = s.1;
    }
