use mathlib.Core.Path.{sym, ◌∙◌}
use native.Mathlib.Omega.{arith}
use Rattle.x10.proofs.Laws.Pattern.{start_refused, key_refused, house_wrong, key_wrong, d16_wrong, key_read}
use Rattle.x10.proofs.Laws.Read.{begun}
use Rattle.x10.proofs.parts.codes_of.Goals as goal

pub returns-then-not-starts : goal.returns-then-not-starts
returns-then-not-starts c = start_refused c.args.places.now c.requires (sym c.starts.ensures ∙ c.if-not-starts.true)

pub returns-in_err-house : goal.returns-in_err-house
returns-in_err-house c =
    let ps = c.args.places.now in
    let begins = sym c.starts.ensures ∙ c.if-not-starts.false in
    rw c.from_residual.ensures (key_refused ps c.requires begins (house_wrong ps (sym c.in_err-house.ensures.value)))

pub returns-in_err-key : goal.returns-in_err-key
returns-in_err-key c =
    let ps = c.args.places.now in
    let begins = sym c.starts.ensures ∙ c.if-not-starts.false in
    rw c.from_residual-in_err-key.ensures
    (key_refused ps c.requires begins (key_wrong ps _ (sym c.in_ok-house.ensures.value) (sym c.in_err-key.ensures.value)))

pub returns-in_err-d16 : goal.returns-in_err-d16
returns-in_err-d16 c =
    let ps = c.args.places.now in
    let begins = sym c.starts.ensures ∙ c.if-not-starts.false in
    rw c.from_residual-in_err-d16.ensures
    (key_refused ps c.requires begins
    (d16_wrong ps _ (sym c.in_ok-house.ensures.value) _ (sym c.in_ok-key.ensures.value) (sym c.in_err-d16.ensures.value)))

pub returns : goal.returns
returns c =
    let ps = c.args.places.now in
    let begins = sym c.starts.ensures ∙ c.if-not-starts.false in
    let house = sym c.in_ok-house.ensures.value in
    let key = sym c.in_ok-key.ensures.value in
    let d16 = sym c.in_ok-d16.ensures.value in (
      begun ps c.requires begins _ house _ key _ d16 ∙ key_read ps _ house _ key _ d16,
      omega (arith, c.in_ok-house.ensures.upper_bound),
      omega (arith, c.in_ok-key.ensures.upper_bound),
      omega (arith, c.in_ok-d16.ensures.upper_bound),
    )
