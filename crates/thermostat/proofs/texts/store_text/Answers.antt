use Rattle.std.proofs.Common.{◌∙◌}
use Rattle.thermostat.proofs.Laws.Texts.{text_stored_paste}
use Rattle.thermostat.proofs.texts.store_text.Goals as goal

pub returns : goal.returns
returns c =
    let a = c.args in
    c.copy.ensures
    ∙ text_stored_paste a.texts.now a.r a.characters.now c.told-texts c.requires.r_value c.requires.characters_len_bound c.place-at.result c.place-at.ensures
