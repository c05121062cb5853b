use Prim.Native.Nat.{ℕ, ◌%◌}
use borrow.Author.Tests.{not-true, not-false}
use lib.Dec.{T}
use lib.Ieee.{Float, binary32, eq, ne, to_bits}
use mathlib.Core.Path.{sym, ap, ◌∙◌, subst}
use native.Mathlib.Nat.{mod-lt, zero-lt-suc}
use Rattle.thermostat.proofs.Laws.Temperature.{counted, one_byte, no_byte, the_byte, no_nan, a_number, clash}
use Rattle.thermostat.specs.Temperature.{celsius}
use Rattle.thermostat.proofs.temperature.to_byte.Goals as goal

pub returns-then-sum : goal.returns-then-sum
unfolding eq ne
returns-then-sum c =
    let x = c.args.degrees in
    let same = eq (counted x) (counted x) in
    sym (no_byte x (λ n h e. clash same (no_nan x (subst T (sym c.well_formed.0.1) tt) n h e) (not-true same c.if-sum.true)))

pub float_to_bits-byte : goal.float_to_bits-byte
unfolding eq ne
float_to_bits-byte c =
    let x = c.args.degrees in
    a_number (counted x) (not-false (eq (counted x) (counted x)) c.if-sum.false)

pub returns-then-degrees-celsius : goal.returns-then-degrees-celsius
returns-then-degrees-celsius c =
    let x = c.args.degrees in
    let n = to_bits binary32 (counted x) % 256 in
    sym
    (one_byte x (subst T (sym c.well_formed.0.1) tt) n (mod-lt (to_bits binary32 (counted x)) (zero-lt-suc 255))
    (ap (λ (y : Float). eq x y) (sym c.celsius.ensures) ∙ c.if-degrees-celsius.true))

pub returns : goal.returns
returns c =
    let x = c.args.degrees in
    sym
    (no_byte x
    (λ n h e.
    clash (eq x (celsius n)) e
    (ap (λ (m : ℕ). eq x (celsius m)) (sym (the_byte x (subst T (sym c.well_formed.0.1) tt) n h e))
    ∙ ap (λ (y : Float). eq x y) (sym c.celsius.ensures)
    ∙ c.if-degrees-celsius.false)))
