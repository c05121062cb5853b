-- Over any run of meter calls from 0 the record holds, after each call, the exact sum of the words accepted so far. Assumes nothing.
use mathlib.Core.Path.{◌≡◌, refl, sym, ap, ◌∙◌}
use mathlib.Core.List.{List, [], ◌∷◌, ◌++◌}
use mathlib.Core.Logic.{⊎_elim}
use Prim.Native.Nat.{ℕ, ◌+◌, ◌-◌, ◌^◌, ◌≤◌}
use native.Mathlib.Nat.{add-zero, zero-add, add_assoc}
use native.Mathlib.Omega.{arith}
use lib.Dec.{lit≤}
use Rattle.answer.specs.Answer.{Outcome, refused, accepted, and_then}
use Rattle.answer.proofs.Laws.Test.{not_accepted, then_accepted}
use Rattle.tally.specs.Cost.{word_of, millionths, power}
use Rattle.tally.specs.Reading.{reading, meter_reply, Carries}
use Rattle.tally.specs.Total.{plus_word, next_total, kept_after, total_after}
use Rattle.tally.specs.Run.{Call, Promised, total_found, value_taken, sum_accepted, RefusedWith, readers, other_message, past_the_largest}
use Rattle.tally.proofs.Laws.Reading.{reading-refused, carried, carries_read, meter_reply-read}
use Rattle.tally.proofs.Laws.Total.{next_when, taken, accepted_exact, refused_past}

-- one reply: what the record gains is what the reply counts, by its answer
gains : (total : ℕ) (r : Outcome ℕ) → kept_after total (and_then r (plus_word total)) ≡ total + value_taken (and_then r (plus_word total)) r
gains total (refused n) = sym (add-zero total)
gains total (accepted word) = by_answer (plus_word total word) refl
  where
    by_answer : (o : Outcome ℕ) → plus_word total word ≡ o → kept_after total o ≡ total + value_taken o (accepted word)
    by_answer (refused n) e = sym (add-zero total)
    by_answer (accepted next) e = accepted_exact total (millionths word) next e

-- a run of calls from any total: the record gains the exact sum of the accepted words
pub exact_from : (total : ℕ) (cs : List Call) → Promised total cs → total_found total cs ≡ total + sum_accepted cs
unfolding Promised total_found sum_accepted
exact_from total [] p = sym (add-zero total)
exact_from total (c ∷ cs) p =
    let r = reading c.reply in
    exact_from c.total cs p.2
    ∙ ap (λ (n : ℕ). n + sum_accepted cs) (p.1 ∙ gains total r ∙ ap (λ (a : Outcome ℕ). total + value_taken a r) (sym p.0))
    ∙ add_assoc total (value_taken c.answer r) (sum_accepted cs)

-- from 0: the record holds the exact sum of the accepted words
pub exact : (cs : List Call) → Promised 0 cs → total_found 0 cs ≡ sum_accepted cs
exact cs p = exact_from 0 cs p ∙ zero-add (sum_accepted cs)

-- the first calls of a run are a run
pub first_calls : (total : ℕ) (cs ds : List Call) → Promised total (cs ++ ds) → Promised total cs
unfolding Promised
first_calls total [] ds p = tt
first_calls total (c ∷ cs) ds p = (p.0, p.1, first_calls c.total cs ds p.2)

-- so it does after each call of a longer run
pub exact_after_each : (cs ds : List Call) → Promised 0 (cs ++ ds) → total_found 0 cs ≡ sum_accepted cs
exact_after_each cs ds p = exact cs (first_calls 0 cs ds p)

-- each call answers and leaves what is promised at the total found before it
pub promised_from : (total : ℕ) (cs : List Call) (c : Call) (ds : List Call) → Promised total (cs ++ (c ∷ ds))
    → (c.answer ≡ next_total (total_found total cs) c.reply) × (c.total ≡ total_after (total_found total cs) c.reply)
unfolding Promised total_found
promised_from total [] c ds p = (p.0, p.1)
promised_from total (b ∷ cs) c ds p = promised_from b.total cs c ds p.2

module _ (cs : List Call) (c : Call) (ds : List Call) (p : Promised 0 (cs ++ (c ∷ ds))) where
  -- the total found before a call
  abbrev before : ℕ
  before = total_found 0 cs

  -- the answer is the one at the exact sum of the words accepted before
  pub answered_at_sum : c.answer ≡ next_total (sum_accepted cs) c.reply
  answered_at_sum = (promised_from 0 cs c ds p).0 ∙ ap (λ (n : ℕ). next_total n c.reply) (exact_after_each cs (c ∷ ds) p)

  -- what the record holds is the total before, or the one that was answered
  kept_by_answer : c.total ≡ kept_after before c.answer
  kept_by_answer = (promised_from 0 cs c ds p).1 ∙ ap (kept_after before) (sym (promised_from 0 cs c ds p).0)

  -- a refused call leaves the record as it was
  pub refused_leaves : (n : ℕ) → c.answer ≡ refused n → c.total ≡ before
  refused_leaves n e = kept_by_answer ∙ ap (kept_after before) e

  -- the refusals: the reader's, no number above 8; 8, where the reader accepts and the reply carries no word; 11 where it carries one, and the
  -- exact sum would pass 2^64 - 1
  pub refused_at_sum : (n : ℕ) → c.answer ≡ refused n → RefusedWith cs c n
  refused_at_sum n e = by_reading (reading c.reply) refl (sym answered_at_sum ∙ e)
    where
      no_word : reading c.reply ≡ refused n → (word : ℕ) → Carries c.reply word → ⊥
      no_word r word k = not_accepted n word (sym r ∙ carries_read c.reply word k)

      by_reading : (r : Outcome ℕ) → reading c.reply ≡ r → and_then r (plus_word (sum_accepted cs)) ≡ refused n → RefusedWith cs c n
      by_reading (refused m) t h =
          ⊎_elim (λ q. readers q.0 q.1) (λ q. other_message q.0 q.1 q.2 (no_word (t ∙ h))) (reading-refused c.reply n (t ∙ h))
      by_reading (accepted word) t h =
          let past = refused_past (sum_accepted cs) (millionths word) n h in
          past_the_largest word (carried c.reply word t) past.0 past.1

  -- a reply is taken only where it has the bytes of a meter reply, and the record then holds the sum with its word
  pub taken_at_sum : (next : ℕ) → c.answer ≡ accepted next
      → (word : ℕ) × Carries c.reply word × (next ≡ sum_accepted cs + millionths word) × (c.total ≡ sum_accepted cs + millionths word)
  taken_at_sum next e =
      let q = then_accepted (reading c.reply) (plus_word (sum_accepted cs)) next (sym answered_at_sum ∙ e) in
      let s = accepted_exact (sum_accepted cs) (millionths q.0) next q.2 in
      (q.0, carried c.reply q.0 q.1, s, kept_by_answer ∙ ap (kept_after before) e ∙ s)

  -- and there it is taken, where the sum fits
  pub fitting_is_taken : (word : ℕ) → Carries c.reply word → sum_accepted cs + millionths word ≤ 2 ^ 64 - 1
      → c.answer ≡ accepted (sum_accepted cs + millionths word)
  fitting_is_taken word k h =
      answered_at_sum
      ∙ next_when (sum_accepted cs) c.reply (accepted word) (carries_read c.reply word k)
      ∙ taken (sum_accepted cs) (millionths word) h

-- three wrong tallies that keep no such run, whatever total they answer: one adds the first word and then only nods; one wraps; one saturates
abbrev taken_leaving : ℕ → ℕ → ℕ → ℕ → Call
taken_leaving high low said total = record { reply = meter_reply 1 high low; answer = accepted said; total = total }

-- what a reply of thermostat 1 counts
counts : (high low said : ℕ) → value_taken (accepted said) (reading (meter_reply 1 high low)) ≡ millionths (word_of high low)
counts high low said = ap (value_taken (accepted said)) (meter_reply-read 1 high low (lit≤ tt) (lit≤ tt))

pub no_nodding : (a b : ℕ) → Promised 0 (taken_leaving 0 1 a 1000000 ∷ taken_leaving 0 1 b 1000000 ∷ []) → ⊥
unfolding total_found sum_accepted millionths power
no_nodding a b p = let e : ◌≡◌ {A = ℕ} 1000000 (value_taken (accepted a) (reading (meter_reply 1 0 1)) + (value_taken (accepted b) (reading (meter_reply 1 0 1)) + 0)) = exact _ p in omega (arith, counts 0 1 a, counts 0 1 b)

pub no_wrapping : (a : ℕ) → Promised (2 ^ 64 - 1) (taken_leaving 234 97 a 0 ∷ []) → ⊥
unfolding total_found sum_accepted millionths power
no_wrapping a p = let e : ◌≡◌ {A = ℕ} 0 (2 ^ 64 - 1 + (value_taken (accepted a) (reading (meter_reply 1 234 97)) + 0)) = exact_from (2 ^ 64 - 1) _ p in omega (arith, counts 234 97 a)

pub no_saturating : (a : ℕ) → Promised (2 ^ 64 - 1) (taken_leaving 234 97 a (2 ^ 64 - 1) ∷ []) → ⊥
unfolding total_found sum_accepted millionths power
no_saturating a p = let e : ◌≡◌ {A = ℕ} (2 ^ 64 - 1) (2 ^ 64 - 1 + (value_taken (accepted a) (reading (meter_reply 1 234 97)) + 0)) = exact_from (2 ^ 64 - 1) _ p in omega (arith, counts 234 97 a)
