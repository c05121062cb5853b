use Rattle.std.proofs.Common.{sym, ◌∙◌, arith}
use Rattle.thermostat.proofs.Laws.Map.{stored_paste}
use Rattle.thermostat.proofs.Laws.Step.{chosen, not_chosen}
use Rattle.thermostat.specs.Map.{stored}
use Rattle.thermostat.specs.Step.{all_settable}
use Rattle.thermostat.proofs.step.change.Goals as goal

pub returns-then-not-are_settable : goal.returns-then-not-are_settable
returns-then-not-are_settable c =
    let a = c.args in
    let e = sym c.are_settable.ensures ∙ c.if-not-are_settable.true in record {
      value = sym e;
      map_after = sym (not_chosen (all_settable a.start a.values.now) (stored a.map.now a.start a.values.now) a.map.now e);
    }

pub returns : goal.returns
returns c =
    let a = c.args in
    let e = sym c.are_settable.ensures ∙ c.if-not-are_settable.false in record {
      value = sym e;
      map_after = c.copy.ensures ∙ sym (stored_paste a.map.now a.start a.values.now (omega arith))
          ∙ sym (chosen (all_settable a.start a.values.now) (stored a.map.now a.start a.values.now) a.map.now e);
    }
