-- Calls one after another: what each leaves, that their texts are the listing of the joined bytes, and which states they lead to. Assumes
-- nothing.
use mathlib.Core.Path.{◌≡◌, refl, sym, ap, ap₂, subst, ◌∙◌}
use mathlib.Core.Bool.{Bool, true, false, not, false≢true}
use mathlib.Core.List.{List, [], ◌∷◌, ◌++◌, append_assoc, append-nil}
use Prim.Native.Nat.{ℕ, zero, suc, ◌+◌, ◌-◌, ◌<◌, ◌≤◌}
use native.Mathlib.Nat.{add-zero}
use native.Mathlib.Omega.{arith}
use lib.Dec.{ltb}
use lib.ListN.{length, get_or, length-append}
use lib.Seq.{drop_at}
use borrow.Author.Tests.{ltb-false}
use Rattle.answer.specs.Answer.{Outcome, refused, accepted, refuse_if, on_accepted, and_then}
use Rattle.answer.proofs.Laws.Test.{not_below, same, not_accepted, passed, passed_not, then_accepted, on_accepted_lem}
use Rattle.link.specs.Frame.{Frame, read_first, write_frame, frame_bytes, size}
use Rattle.link.proofs.Laws.First.{starting, first_after_write}
use Rattle.listing.specs.Lines.{Line, frame, after_noise, lines_from}
use Rattle.listing.specs.Text.{text, listing}
use Rattle.listing.specs.State.{State, as_state, unread_at, possible, zeros, state_of, state_bytes, is_state, fresh}
use Rattle.listing.specs.Pieces.{Progress, after, judged_from, judged_piece, Call, piece_taken, finished, lent_room, piece, finish, Piece, joined, both, calls, led_to, Unreached}
use Rattle.listing.proofs.Laws.Closing.{call_with_room, by_room, finish-refused}
use Rattle.listing.proofs.Laws.Judging.{FrameOrNone, left_open, at_open, at_noise, at_frame, appended, left_unsettled, early}
use Rattle.listing.proofs.Laws.Places.{text_joined}
use Rattle.listing.proofs.Laws.Settled.{other_settled}
use Rattle.listing.proofs.Laws.State.{Possible, possible_facts, possible_by, zeros-length, state_possible, state_of_bytes, bytes_are_state, bytes_of_state, fresh-is_state, fresh_of}
use Rattle.listing.proofs.Laws.Taken.{past_checks, no_state}

-- ---- one call

-- the state that a piece leaves
abbrev pub left_by : State → List ℕ → State
left_by st bytes = as_state (st.came + length bytes) (judged_piece st bytes).run (judged_piece st bytes).unread

pub possible_after : (st : State) (bytes : List ℕ) → possible st ≡ true → st.came + length bytes ≤ 4096
    → possible (as_state (st.came + length bytes) (judged_piece st bytes).run (judged_piece st bytes).unread) ≡ true
possible_after st bytes p most =
    let f : Possible st = possible_facts st p in
    let late = f.late in
    let l = length-append st.unread bytes in
    let e = early (unread_at st) st.run (st.unread ++ bytes) (omega arith) (λ n. omega (arith, f.early (λ z. n (omega arith)))) in
    possible_by (left_by st bytes)
    (record {
      most = most;
      late = omega (arith, e.0);
      early = λ some. omega (arith, e.1 (λ z. some (omega arith)));
      unsettled = left_unsettled (unread_at st) st.run (st.unread ++ bytes);
    })

-- what an accepted call says
pub record Taken (room : ℕ) (b bytes : List ℕ) (c : Call) : Type 0 where
  pub known : is_state b ≡ true
  pub most : (state_of b).came + length bytes ≤ 4096
  pub fits : length c.text ≤ room
  pub is : c ≡ piece_taken (state_of b) bytes

pub record Finished (room : ℕ) (b : List ℕ) (c : Call) : Type 0 where
  pub known : is_state b ≡ true
  pub fits : length c.text ≤ room
  pub is : c ≡ finished (state_of b)

-- its lines fit into the lent output
in_room_lem : (room : ℕ) (d c : Call) → lent_room room d ≡ accepted c → (length c.text ≤ room) × (c ≡ d)
in_room_lem room d c =
    by_room room d (λ o. o ≡ accepted c → (length c.text ≤ room) × (c ≡ d))
    (λ h e. absurd (not_accepted 9 c e))
    (λ h e. let is : c ≡ d = sym (same e) in (omega (arith, ap (λ (x : Call). length x.text) is), is))

pub taken : (room : ℕ) (b bytes : List ℕ) (c : Call) → piece room b bytes ≡ accepted c → Taken room b bytes c
unfolding piece
taken room b bytes c e =
    let d = piece_taken (state_of b) bytes in
    let p = passed_not (is_state b) 8 (refuse_if (ltb 4096 ((state_of b).came + length bytes)) 3 (lent_room room d)) c e in
    let q = passed (ltb 4096 ((state_of b).came + length bytes)) 3 (lent_room room d) c p.1 in
    let r = in_room_lem room d c q.1 in
    record { known = p.0; most = ltb-false 4096 ((state_of b).came + length bytes) q.0; fits = r.0; is = r.1 }

pub ended : (room : ℕ) (b : List ℕ) (c : Call) → finish room b ≡ accepted c → Finished room b c
unfolding finish
ended room b c e =
    let p = passed_not (is_state b) 8 (lent_room room (finished (state_of b))) c e in
    let r = in_room_lem room (finished (state_of b)) c p.1 in
    record { known = p.0; fits = r.0; is = r.1 }

-- and where it is accepted
pub takes : (room : ℕ) (b bytes : List ℕ) → is_state b ≡ true → (state_of b).came + length bytes ≤ 4096 → length (piece_taken (state_of b) bytes).text ≤ room
    → piece room b bytes ≡ accepted (piece_taken (state_of b) bytes)
takes room b bytes known most fits = past_checks room b bytes known most ∙ call_with_room room (piece_taken (state_of b) bytes) fits

-- the state that it leaves
pub piece_leaves_state : (room : ℕ) (b bytes : List ℕ) (c : Call) → piece room b bytes ≡ accepted c → is_state c.state ≡ true
piece_leaves_state room b bytes c e =
    let t : Taken room b bytes c = taken room b bytes c e in
    ap (λ (x : Call). is_state x.state) t.is
    ∙ bytes_are_state (left_by (state_of b) bytes) (possible_after (state_of b) bytes (state_possible b t.known) t.most)

pub finish_leaves_fresh : (room : ℕ) (b : List ℕ) (c : Call) → finish room b ≡ accepted c → c.state ≡ fresh
finish_leaves_fresh room b c e = ap (λ (x : Call). x.state) (ended room b c e).is

pub piece-state_of : (room : ℕ) (b bytes : List ℕ) (c : Call) → piece room b bytes ≡ accepted c → state_of c.state ≡ left_by (state_of b) bytes
piece-state_of room b bytes c e =
    let t : Taken room b bytes c = taken room b bytes c e in
    ap (λ (x : Call). state_of x.state) t.is
    ∙ state_of_bytes (left_by (state_of b) bytes) (possible_after (state_of b) bytes (state_possible b t.known) t.most)

-- ---- pieces as the whole

-- the lines from a state on, with the bytes that follow
abbrev lines_after : State → List ℕ → List Line
lines_after st t = lines_from (unread_at st) st.run 0 (st.unread ++ t)

lines_split : (st : State) (bytes t : List ℕ) → possible st ≡ true → lines_after st (bytes ++ t) ≡ (judged_piece st bytes).lines ++ lines_after (left_by st bytes) t
lines_split st bytes t p =
    let f : Possible st = possible_facts st p in
    let late = f.late in
    let j = judged_piece st bytes in
    let l = length-append st.unread bytes in
    let o : unread_at st + length (st.unread ++ bytes) - length j.unread ≡ st.came + length bytes - length j.unread = omega arith in
    ap (lines_from (unread_at st) st.run 0) (sym (append_assoc st.unread bytes t))
    ∙ appended (unread_at st) st.run (st.unread ++ bytes) t
    ∙ ap (λ (n : ℕ). j.lines ++ lines_from n j.run 0 (j.unread ++ t)) o

-- what accepted calls say, from any state on
record Whole (b : List ℕ) (bytes : List ℕ) (c : Call) : Type 0 where
  pub most : (state_of b).came + length bytes ≤ 4096
  pub prints : c.text ≡ text (lines_after (state_of b) bytes)
  pub leaves : c.state ≡ fresh

whole_end : (room : ℕ) (b : List ℕ) (c : Call) → finish room b ≡ accepted c → Whole b [] c
whole_end room b c e =
    let d : Finished room b c = ended room b c e in
    let st = state_of b in
    let f : Possible st = possible_facts st (state_possible b d.known) in
    record {
      most = omega (arith, f.most);
      prints = ap (λ (x : Call). x.text) d.is ∙ ap (λ (x : List ℕ). text (lines_from (unread_at st) st.run 0 x)) (sym (append-nil st.unread));
      leaves = finish_leaves_fresh room b c e;
    }

whole_on : (room : ℕ) (b bytes t : List ℕ) (c d : Call) → piece room b bytes ≡ accepted c → Whole c.state t d → Whole b (bytes ++ t) (both c d)
whole_on room b bytes t c d e w =
    let k : Taken room b bytes c = taken room b bytes c e in
    let st = state_of b in
    let left : state_of c.state ≡ left_by st bytes = piece-state_of room b bytes c e in
    let n : (state_of c.state).came ≡ st.came + length bytes = ap (λ (x : State). x.came) left in
    let l = length-append bytes t in
    record {
      most = omega (arith, w.most);
      prints =
          ap₂ (λ (x y : List ℕ). x ++ y) (ap (λ (x : Call). x.text) k.is) (w.prints ∙ ap (λ (x : State). text (lines_after x t)) left)
          ∙ sym (text_joined (judged_piece st bytes).lines (lines_after (left_by st bytes) t))
          ∙ ap text (sym (lines_split st bytes t (state_possible b k.known)));
      leaves = w.leaves;
    }

whole_from : (ps : List Piece) (b : List ℕ) (room : ℕ) (c : Call) → calls b ps room ≡ accepted c → Whole b (joined ps) c
unfolding calls joined
whole_from [] b room c e = whole_end room b c e
whole_from (p ∷ ps) b room c e =
    let x = then_accepted (piece p.room b p.bytes) (λ c. on_accepted (both c) (calls c.state ps room)) c e in
    let y = on_accepted_lem (both x.0) (calls x.0.state ps room) c x.2 in
    subst (Whole b (p.bytes ++ joined ps)) y.2
    (whole_on p.room b p.bytes (joined ps) x.0 y.0 x.1 (whole_from ps x.0.state room y.0 y.1))

-- the texts of accepted calls are the listing of their bytes, and the state is fresh again
pub pieces_as_whole : (ps : List Piece) (room : ℕ) (c : Call) → calls fresh ps room ≡ accepted c
    → (listing (joined ps) ≡ accepted c.text) × (c.state ≡ fresh)
unfolding listing
pieces_as_whole ps room c e =
    let w : Whole fresh (joined ps) c = whole_from ps fresh room c e in
    let n : (state_of fresh).came ≡ 0 = ap (λ (x : State). x.came) fresh_of in
    let is : c.text ≡ text (lines_from 0 0 0 (joined ps)) = w.prints ∙ ap (λ (x : State). text (lines_after x (joined ps))) fresh_of in
    (not_below 3 (accepted (text (lines_from 0 0 0 (joined ps)))) 4096 (length (joined ps)) (omega (arith, w.most)) ∙ ap accepted (sym is), w.leaves)

-- ---- the states that pieces lead to

led_from : (ps : List Piece) (a b : List ℕ) → is_state a ≡ true → led_to a ps ≡ accepted b → is_state b ≡ true
unfolding led_to
led_from [] a b known e = ap is_state (sym (same e)) ∙ known
led_from (p ∷ ps) a b known e =
    let x = then_accepted (piece p.room a p.bytes) (λ c. led_to c.state ps) b e in
    led_from ps x.0.state b (piece_leaves_state p.room a p.bytes x.0 x.1) x.2

pub led_to_a_state : (ps : List Piece) (b : List ℕ) → led_to fresh ps ≡ accepted b → is_state b ≡ true
led_to_a_state ps b e = led_from ps fresh b fresh-is_state e

-- zero bytes are noise
zeros-judged : (n offset run : ℕ) (s : List ℕ) → judged_from offset run 0 (zeros n ++ s) ≡ judged_from (offset + n) (run + n) 0 s
unfolding zeros
zeros-judged zero offset run s = ap₂ (λ (o r : ℕ). judged_from o r 0 s) (sym (add-zero offset)) (sym (add-zero run))
zeros-judged (suc n) offset run s =
    let o : offset + 1 + n ≡ offset + suc n = omega arith in
    let r : run + 1 + n ≡ run + suc n = omega arith in
    let none : (f : Frame) → read_first (0 ∷ (zeros n ++ s)) ≡ accepted f → ⊥ =
    λ f e. let z : ◌≡◌ {A = ℕ} 0 0x5A = (starting (0 ∷ (zeros n ++ s)) f e).start in omega arith in
    at_noise 0 (zeros n ++ s) offset run (other_settled (0 ∷ (zeros n ++ s)) (λ z. omega arith) (λ z. omega arith)) none
    ∙ zeros-judged n (offset + 1) (run + 1) s
    ∙ ap₂ (λ (o r : ℕ). judged_from o r 0 s) o r

-- a frame of 5 bytes
abbrev least : List ℕ
least = frame_bytes 5 []

least_long : length least ≡ 5
unfolding frame_bytes
least_long = refl

least_written : write_frame 5 [] ≡ accepted least
unfolding write_frame
least_written = refl

-- so many bytes that leave no noise: none, or noise and a frame
abbrev before : ℕ → List ℕ
before zero = []
before (suc n) = zeros (suc n - 5) ++ least

before_long : (n : ℕ) → FrameOrNone n → length (before n) ≡ n
before_long zero enough = refl
before_long (suc n) enough =
    let five : 5 ≤ suc n = enough (λ z. omega arith) in
    omega (arith, length-append (zeros (suc n - 5)) least, zeros-length (suc n - 5), least_long)

before_judged : (n : ℕ) (s : List ℕ) → FrameOrNone n → (ls : List Line) × (judged_from 0 0 0 (before n ++ s) ≡ after ls (judged_from n 0 0 s))
before_judged zero s enough = ([], refl)
before_judged (suc n) s enough =
    let k = suc n - 5 in
    let f : Frame = record { kind = 5; bytes = [] } in
    let five : 5 ≤ suc n = enough (λ z. omega arith) in
    let o : k + 5 ≡ suc n = omega arith in
    let z : 0 + k ≡ k = omega arith in
    let ls = after_noise k k (frame k (size f) f.kind ∷ []) in (
      ls,
      ap (judged_from 0 0 0) (append_assoc (zeros k) least s)
          ∙ zeros-judged k 0 0 (least ++ s)
          ∙ ap₂ (λ (o r : ℕ). judged_from o r 0 (least ++ s)) z z
          ∙ at_frame (least ++ s) k k f (first_after_write 5 [] least s least_written)
          ∙ ap₂ (λ (o : ℕ) (x : List ℕ). after ls (judged_from o 0 0 x)) o (drop_at least s 5 least_long),
    )

-- bytes that lead to a state, as one piece
module _ (st : State) (p : possible st ≡ true) where
  abbrev late : ℕ
  late = st.run + length st.unread

  abbrev leading : List ℕ
  leading = before (st.came - late) ++ (zeros st.run ++ st.unread)

  leading_long : length leading ≡ st.came
  leading_long =
      let f : Possible st = possible_facts st p in
      omega (
        arith,
        f.late,
        length-append (before (st.came - late)) (zeros st.run ++ st.unread),
        length-append (zeros st.run) st.unread,
        before_long (st.came - late) f.early,
        zeros-length st.run,
      )

  leading-judged : (ls : List Line) × (judged_from 0 0 0 leading ≡ after ls (left_open st.run st.unread))
  leading-judged =
      let f : Possible st = possible_facts st p in
      let n = st.came - late in
      let x = before_judged n (zeros st.run ++ st.unread) f.early in
      let z : 0 + st.run ≡ st.run = omega arith in (
        x.0,
        x.1
            ∙ ap (after x.0)
            (zeros-judged st.run n 0 st.unread
            ∙ at_open st.unread (n + st.run) (0 + st.run) f.unsettled
            ∙ ap (λ (r : ℕ). left_open r st.unread) z),
      )

  leading_leaves : (piece_taken (state_of fresh) leading).state ≡ state_bytes st
  leading_leaves =
      let n : 0 + length leading ≡ st.came = omega (arith, leading_long) in
      ap (λ (x : State). (piece_taken x leading).state) fresh_of
      ∙ ap₂ (λ (n : ℕ) (j : Progress). state_bytes (as_state n j.run j.unread)) n leading-judged.1

  leading_most : (state_of fresh).came + length leading ≤ 4096
  leading_most =
      let f : Possible st = possible_facts st p in
      let n : (state_of fresh).came ≡ 0 = ap (λ (x : State). x.came) fresh_of in
      omega (arith, leading_long, f.most)

pub state_is_led_to : (b : List ℕ) → ((i : ℕ) → get_or b i 0 < 256) → is_state b ≡ true → (ps : List Piece) × (led_to fresh ps ≡ accepted b)
unfolding led_to
state_is_led_to b small e =
    let st = state_of b in
    let p : possible st ≡ true = state_possible b e in
    let s = leading st p in
    let room = length (piece_taken (state_of fresh) s).text in (
      record { bytes = s; room = room } ∷ [],
      ap (λ (o : Outcome Call). and_then o (λ c. accepted c.state)) (takes room fresh s fresh-is_state (leading_most st p) (omega arith))
          ∙ ap accepted (leading_leaves st p ∙ bytes_of_state b small e),
    )

-- ---- the refusal 8

unreached_by : (b : List ℕ) → is_state b ≡ false → Unreached b
unreached_by b none ps e = absurd (false≢true (sym none ∙ led_to_a_state ps b e))

unreached_none : (b : List ℕ) → ((i : ℕ) → get_or b i 0 < 256) → Unreached b → is_state b ≡ false
unreached_none b small h = go (is_state b) refl
  where
    go : (t : Bool) → is_state b ≡ t → is_state b ≡ false
    go true e = let x = state_is_led_to b small e in absurd (h x.0 x.1)
    go false e = e

-- another refusal
other_number : {A : Type 0} (t : Bool) (m n : ℕ) (later : Outcome A) → (m ≡ n → ⊥) → refuse_if t m later ≡ refused n → later ≡ refused n
other_number true m n later other e = let h : m ≡ n = cc in absurd (other h)
other_number false m n later other e = e

none_accepted : (room n : ℕ) (c : Call) → (9 ≡ n → ⊥) → lent_room room c ≡ refused n → ⊥
none_accepted room n c other =
    by_room room c (λ o. o ≡ refused n → ⊥) (λ h e. let z : 9 ≡ n = cc in other z) (λ h e. not_accepted n c (sym e))

first_check : {A : Type 0} (t : Bool) (later : Outcome A) → refuse_if (not t) 8 later ≡ refused 8 → (later ≡ refused 8 → ⊥) → t ≡ false
first_check true later e none = absurd (none e)
first_check false later e none = refl

module _ (room : ℕ) (b bytes : List ℕ) where
  piece_8 : piece room b bytes ≡ refused 8 → is_state b ≡ false
  unfolding piece
  piece_8 e =
      let d = piece_taken (state_of b) bytes in
      let t = ltb 4096 ((state_of b).came + length bytes) in
      first_check (is_state b) (refuse_if t 3 (lent_room room d)) e
      (λ r. none_accepted room 8 d (λ z. omega arith) (other_number t 3 8 (lent_room room d) (λ z. omega arith) r))

  finish_8 : finish room b ≡ refused 8 → is_state b ≡ false
  unfolding finish
  finish_8 e =
      let d = finished (state_of b) in
      first_check (is_state b) (lent_room room d) e (none_accepted room 8 d (λ z. omega arith))

-- a call refuses 8 exactly where no pieces lead to the state
pub refused_8_exactly : (room : ℕ) (b bytes : List ℕ) → ((i : ℕ) → get_or b i 0 < 256)
    → (piece room b bytes ≡ refused 8 → Unreached b) × (Unreached b → piece room b bytes ≡ refused 8)
refused_8_exactly room b bytes small =
    (λ e. unreached_by b (piece_8 room b bytes e), λ h. no_state room b bytes (unreached_none b small h))

pub finish_refused_8_exactly : (room : ℕ) (b : List ℕ) → ((i : ℕ) → get_or b i 0 < 256)
    → (finish room b ≡ refused 8 → Unreached b) × (Unreached b → finish room b ≡ refused 8)
finish_refused_8_exactly room b small =
    (λ e. unreached_by b (finish_8 room b [] e), λ h. finish-refused room b (unreached_none b small h))
