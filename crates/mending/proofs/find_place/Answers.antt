use Prim.Native.Nat.{ℕ, ◌+◌, ◌-◌, ◌*◌, ◌<◌, ◌≤◌}
use lib.ListN.{length, take, drop, length-drop}
use lib.Seq.{take_all}
use mathlib.Core.Path.{◌≡◌, sym, ap, ◌∙◌}
use native.Mathlib.Decide.{dec_lt}
use native.Mathlib.Omega.{arith}
use Rattle.crc.specs.Crc.{crc, shift}
use Rattle.crc.specs.Parts.{turns}
use Rattle.crc.proofs.Laws.Bits.{are_bytes_lem}
use Rattle.crc.proofs.Laws.Feed.{turns-add}
use Rattle.mending.proofs.Laws.Mending.{damaged_size, found, none_found}
use Rattle.mending.proofs.find_place.Goals as goal

-- one turn more
turned_on : (n p r t : ℕ) → 8 ≤ p → p ≤ n → r ≡ turns (n - p) 1 → t ≡ shift r → t ≡ turns (n - (p - 1)) 1
turned_on n p r t some most e turn =
    let more : (n - p) + 1 ≡ n - (p - 1) = omega arith in
    turn ∙ ap shift e ∙ sym (turns-add (n - p) 1 1) ∙ ap (λ (k : ℕ). turns k 1) more

-- it is not the remainder at this place either
still-none : (n p e t : ℕ) → 8 < p → t ≡ turns (n - (p - 1)) 1 → (t ≡ e → ⊥)
    → ((q : ℕ) → p ≤ q → q < n → e ≡ turns (n - q) 1 → ⊥) → (q : ℕ) → p - 1 ≤ q → q < n → e ≡ turns (n - q) 1 → ⊥
still-none n p e t some here other none q h l r = by (dec_lt (p - 1) q)
  where
    by : Dec (p - 1 < q) → ⊥
    by (yes more) = none q (omega arith) l r
    by (no more) =
        let same : p - 1 ≡ q = omega arith in
        other (here ∙ ap (λ (k : ℕ). turns (n - k) 1) same ∙ sym r)

pub slice_bounds-crc16-count : goal.slice_bounds-crc16-count
slice_bounds-crc16-count c = let size = damaged_size c.args.bytes.now c.requires in omega (arith, size.0)

pub slice_bounds-crc16-start : goal.slice_bounds-crc16-start
slice_bounds-crc16-start c = let size = damaged_size c.args.bytes.now c.requires in omega (arith, size.0)

pub overflow_sub-p : goal.overflow_sub-p
overflow_sub-p c =
    let size = damaged_size c.args.bytes.now c.requires in omega (arith, size.0)

pub overflow_step-p : goal.overflow_step-p
overflow_step-p c =
    let size = damaged_size c.args.bytes.now c.requires in omega (arith, size.1)

pub loop-p-init : goal.loop-p-init
loop-p-init c =
    let size = damaged_size c.args.bytes.now c.requires in
    let n = 8 * (length c.args.bytes.now - 1) in
    let none : 0 ≡ n - n = omega arith in
    (omega (arith, size.0), omega arith, ap (λ (k : ℕ). turns k 1) none, λ q h l e. omega arith)

pub overflow_cast-result : goal.overflow_cast-result
overflow_cast-result c =
    let size = damaged_size c.args.bytes.now c.requires in omega (arith, size.1, c.loop-p.invariant.1)

pub returns-then-turned-remainder : goal.returns-then-turned-remainder
returns-then-turned-remainder c =
    let s = c.args.bytes.now in
    let n = 8 * (length s - 1) in
    let here : c.turn-turned.result ≡ turns (n - (c.loop-p.p - 1)) 1 =
    turned_on n c.loop-p.p c.loop-p.turned c.turn-turned.result c.loop-p.invariant.0 c.loop-p.invariant.1 c.loop-p.invariant.2 c.turn-turned.ensures in
    let all : take (length s - 1) (drop 1 s) ≡ drop 1 s = take_all (length s - 1) (drop 1 s) (omega (arith, length-drop 1 s)) in
    found s (are_bytes_lem s (λ j. (c.type_inv.bytes j).fits)) c.requires (c.loop-p.p - 1) (omega arith) (omega (arith, c.loop-p.invariant.1))
    (ap crc (sym all) ∙ sym (c.from-remainder.ensures ∙ c.crc16.ensures) ∙ sym c.if-turned-remainder.true ∙ here)

pub loop-p-preserved : goal.loop-p-preserved
loop-p-preserved c =
    let s = c.args.bytes.now in
    let n = 8 * (length s - 1) in
    let here : c.turn-turned.result ≡ turns (n - (c.loop-p.p - 1)) 1 =
    turned_on n c.loop-p.p c.loop-p.turned c.turn-turned.result c.loop-p.invariant.0 c.loop-p.invariant.1 c.loop-p.invariant.2 c.turn-turned.ensures in (
      omega arith,
      omega (arith, c.loop-p.invariant.1),
      here,
      still-none n c.loop-p.p c.from-remainder.result c.turn-turned.result (omega arith) here c.if-turned-remainder.false c.loop-p.invariant.3,
    )

pub returns : goal.returns
returns c =
    let s = c.args.bytes.now in
    let all : take (length s - 1) (drop 1 s) ≡ drop 1 s = take_all (length s - 1) (drop 1 s) (omega (arith, length-drop 1 s)) in
    none_found s (are_bytes_lem s (λ j. (c.type_inv.bytes j).fits)) c.requires
    (λ q h l e. c.loop-p.invariant.3 q (omega arith) l (c.from-remainder.ensures ∙ c.crc16.ensures ∙ ap crc all ∙ e))
