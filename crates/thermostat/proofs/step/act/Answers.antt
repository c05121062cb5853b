use Rattle.std.proofs.Common.{arith, sym, ap, ◌∙◌, List, ℕ}
use Rattle.answer.specs.Answer.{accepted}
use Rattle.omnistat.specs.declared.frame.End.TheVariants.{Thermostat}
use Rattle.omnistat.specs.declared.request.Request.{Request}
use Rattle.omnistat.specs.Answer.{request_in}
use Rattle.omnistat.specs.Message.{set_from}
use Rattle.omnistat.specs.Omnistat.{text, addressed, addressed_counted}
use Rattle.omnistat.proofs.Laws.Omnistat.{text_heard}
use Rattle.thermostat.proofs.Laws.Step.{poll-read, set-read}
use Rattle.thermostat.proofs.step.act.Goals as goal

pub on_poll-requires-clause-count_value : goal.on_poll-requires-clause-count_value
on_poll-requires-clause-count_value c =
    let s = c.args.bytes.now in
    poll-read s c.in-Poll.first c.in-Poll.start c.in-Poll.count
    (sym (c.in_ok-first.ensures) ∙ ap (λ (q : Request). accepted (request_in s q)) c.in-Poll.is)

pub on_set-requires-clause-values_bound : goal.on_set-requires-clause-values_bound
on_set-requires-clause-values_bound c =
    let s = c.args.bytes.now in
    set-read s c.in-Set.first c.in-Set.start c.values.result.now
    (sym (c.in_ok-first.ensures)
    ∙ ap (λ (q : Request). accepted (request_in s q)) c.in-Set.is
    ∙ ap (λ (x : List ℕ). accepted (addressed_counted Thermostat c.in-Set.first (set_from c.in-Set.start x))) (sym c.values.ensures))

pub on_text-requires : goal.on_text-requires
on_text-requires c =
    let s = c.args.bytes.now in
    let t =
    text_heard Thermostat tt c.in-Text.first (record { half = c.in-Text.half; start = c.in-Text.start; characters = c.values-in-Text.result.now }) s
    (sym (c.in_ok-first.ensures)
    ∙ ap (λ (q : Request). accepted (request_in s q)) c.in-Text.is
    ∙ ap (λ (x : List ℕ). accepted (addressed c.in-Text.first (text (record { half = c.in-Text.half; start = c.in-Text.start; characters = x })))) (sym c.values-in-Text.ensures)) in
    record { in_bounds = omega (arith, c.requires.in_bounds); start_value = t.0; characters_len_bound = t.1 }
