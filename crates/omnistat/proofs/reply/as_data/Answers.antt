use mathlib.Core.Path.{◌∙◌}
use Rattle.std.specs.Prelude.{Ok, Err}
use Rattle.omnistat.specs.declared.frame.End.TheVariants.{Host}
use Rattle.omnistat.specs.Message.{data_from}
use Rattle.answer.proofs.Laws.Exit.{still_passed_up}
use Rattle.omnistat.proofs.Laws.Heard.{run_made}
use Rattle.omnistat.proofs.reply.as_data.Goals as goal

pub returns-in_err-run : goal.returns-in_err-run
returns-in_err-run c rest =
    let a = c.args in
    still_passed_up _ _ c.from_residual.ensures.1 _
    ∙ run_made Host a.number data_from a.payload.now (Err c.in_err-run.field-0.0) c.in_err-run.ensures rest

pub returns : goal.returns
returns c rest =
    let a = c.args in
    run_made Host a.number data_from a.payload.now (Ok c.in_ok-run.run') c.in_ok-run.ensures rest
