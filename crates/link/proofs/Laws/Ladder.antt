-- The reader's and the writer's answers, a law for each: the facts that lead to it. Assumes nothing.
use mathlib.Core.Path.{◌≡◌, refl, sym, ap, ◌∙◌}
use mathlib.Core.Bool.{Bool, true, false}
use mathlib.Core.List.{List}
use Prim.Native.Nat.{ℕ, ◌+◌, ◌-◌, ◌<◌, ◌≤◌}
use lib.Dec.{eqb}
use native.Mathlib.Omega.{arith}
use lib.ListN.{length, get_or, take, drop, length-append, length-take, length-drop}
use borrow.Author.Tests.{eq-eqb, ne_eqb, lt-ltb, le-ltb}
use Rattle.answer.specs.Answer.{refused, accepted, on_accepted, in_room}
use Rattle.answer.proofs.Laws.Output.{no_room, with_room}
use Rattle.answer.proofs.Laws.Test.{not_accepted}
use Rattle.crc.specs.Crc.{crc}
use Rattle.link.specs.Frame.{header, covered, sent, read_body, read_frame, frame_bytes, write_frame}

module _ (s : List ℕ) where
  pub empty : length s ≡ 0 → read_frame s ≡ refused 1
  unfolding read_frame
  empty none = simp (eq-eqb (length s) 0 none)

  module _ (some : length s ≡ 0 → ⊥) where
    pub wrong_start : (get_or s 0 0 ≡ 0x5A → ⊥) → read_frame s ≡ refused 2
    unfolding read_frame
    wrong_start other = simp (ne_eqb (length s) 0 some, ne_eqb (get_or s 0 0) 0x5A other)

    module _ (start : get_or s 0 0 ≡ 0x5A) where
      pub start_alone : length s ≡ 1 → read_frame s ≡ refused 1
      unfolding read_frame
      start_alone one = simp (ne_eqb (length s) 0 some, eq-eqb (get_or s 0 0) 0x5A start, eq-eqb (length s) 1 one)

      pub by_length : (length s ≡ 1 → ⊥) → read_frame s ≡ read_body s (get_or s 1 0)
      unfolding read_frame
      by_length more = simp (ne_eqb (length s) 0 some, eq-eqb (get_or s 0 0) 0x5A start, ne_eqb (length s) 1 more)

module _ (s : List ℕ) (l : ℕ) where
  pub length_zero : l ≡ 0 → read_body s l ≡ refused 3
  unfolding read_body
  length_zero e = simp (eq-eqb l 0 e)

  module _ (some : l ≡ 0 → ⊥) where
    pub length_above : 0x41 < l → read_body s l ≡ refused 3
    unfolding read_body
    length_above h = simp (ne_eqb l 0 some, lt-ltb 0x41 l h)

    module _ (within : l ≤ 0x41) where
      pub too_short : length s < l + 4 → read_body s l ≡ refused 1
      unfolding read_body
      too_short h = simp (ne_eqb l 0 some, le-ltb 0x41 l within, lt-ltb (length s) (l + 4) h)

      module _ (enough : l + 4 ≤ length s) where
        pub too_long : l + 4 < length s → read_body s l ≡ refused 4
        unfolding read_body
        too_long h =
            simp (ne_eqb l 0 some, le-ltb 0x41 l within, le-ltb (length s) (l + 4) enough, lt-ltb (l + 4) (length s) h)

        module _ (whole : length s ≤ l + 4) where
          pub wrong_crc : eqb (sent s l) (crc (covered s l)) ≡ false → read_body s l ≡ refused 5
          unfolding read_body
          wrong_crc h =
              simp (ne_eqb l 0 some, le-ltb 0x41 l within, le-ltb (length s) (l + 4) enough, le-ltb (l + 4) (length s) whole, h)

          -- its count of data bytes is one less than the length byte
          count : length (take (l - 1) (drop 3 s)) ≡ l - 1
          count = simp (length-take, length-drop) (omega arith)

          pub whole_frame : eqb (sent s l) (crc (covered s l)) ≡ true
              → read_body s l ≡ accepted (record { kind = get_or s 2 0; bytes = take (l - 1) (drop 3 s) })
          unfolding read_body
          whole_frame h =
              simp (ne_eqb l 0 some, le-ltb 0x41 l within, le-ltb (length s) (l + 4) enough, le-ltb (l + 4) (length s) whole, h)

          pub whole_header : eqb (sent s l) (crc (covered s l)) ≡ true
              → on_accepted header (read_body s l) ≡ accepted (record { kind = get_or s 2 0; count = l - 1 })
          whole_header h =
              ap (on_accepted header) (whole_frame h)
              ∙ ap (λ (n : ℕ). accepted (record { kind = get_or s 2 0; count = n })) count

          -- enough bytes are not too few
          pub whole_not_short : read_body s l ≡ refused 1 → ⊥
          whole_not_short e = go (eqb (sent s l) (crc (covered s l))) refl
            where
              go : (t : Bool) → eqb (sent s l) (crc (covered s l)) ≡ t → ⊥
              go true h = not_accepted 1 (record { kind = get_or s 2 0; bytes = take (l - 1) (drop 3 s) }) (sym e ∙ whole_frame h)
              go false h = let z : ◌≡◌ {A = ℕ} 5 1 = cc (wrong_crc h, e) in omega arith

-- the frame writer's answers
pub frame-length : (kind : ℕ) (d : List ℕ) → length (frame_bytes kind d) ≡ length d + 5
unfolding frame_bytes
frame-length kind d = simp length-append (omega arith)

module _ (kind : ℕ) (d : List ℕ) (room : ℕ) where
  pub too_much : 64 < length d → in_room room (write_frame kind d) ≡ refused 3
  unfolding write_frame
  too_much h = simp (lt-ltb 64 (length d) h)

  module _ (small : length d ≤ 64) where
    written : write_frame kind d ≡ accepted (frame_bytes kind d)
    unfolding write_frame
    written = simp (le-ltb 64 (length d) small)

    pub too_little : room < length d + 5 → in_room room (write_frame kind d) ≡ refused 9
    too_little h = ap (in_room room) written ∙ no_room room (frame_bytes kind d) (omega (arith, frame-length kind d))

    pub fits : length d + 5 ≤ room → in_room room (write_frame kind d) ≡ accepted (frame_bytes kind d)
    fits h = ap (in_room room) written ∙ with_room room (frame_bytes kind d) (omega (arith, frame-length kind d))
