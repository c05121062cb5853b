-- The readers' checks, each decided by a fact. Assumes nothing.
use mathlib.Core.Path.{◌≡◌, refl, ◌∙◌}
use mathlib.Core.Bool.{true, false, ◌&&◌, and-true}
use mathlib.Core.List.{List, [], ◌∷◌}
use Prim.Native.Nat.{ℕ, ◌+◌, ◌≤◌, ◌<◌}
use native.Mathlib.Omega.{arith}
use lib.Dec.{eqb}
use lib.ListN.{length, get_or}
use lib.Seq.{slice}
use borrow.Author.Tests.{lt-ltb, le-ltb, eq-eqb, ne_eqb}
use Rattle.answer.specs.Answer.{refused, accepted}
use Rattle.x10.specs.declared.Function.{Function}
use Rattle.x10.specs.Codes.{index_of, extended1, function_of}
use Rattle.x10.specs.Places.{are_places, start_code, starts_with, spelled}
use Rattle.x10.specs.Parts.{refused_key, refused_rest, by_codes}
use Rattle.x10.specs.Pattern.{Message, unit, function, extended, ending, read_rest, read_function, read_key, read}

module _ (ps : List ℕ) (m : Message) (n : ℕ) where
  pub ends : length ps ≤ n → ending n ps m ≡ accepted m
  ends h = simp (le-ltb n (length ps) h)

  pub goes_on : n < length ps → ending n ps m ≡ refused 4
  goes_on h = simp (lt-ltb n (length ps) h)

module _ (ps : List ℕ) where
  pub read_short : length ps < 22 → read ps ≡ refused 1
  unfolding read
  read_short h = simp (lt-ltb (length ps) 22 h)

  pub read_on : 22 ≤ length ps → are_places (slice 0 22 ps) ≡ true → starts_with start_code ps ≡ true → read ps ≡ read_key ps
  unfolding read
  read_on h e s = simp (le-ltb (length ps) 22 h, e, s)

  -- a wrong start code, and a wrong complement behind the start code
  pub start_refused : 22 ≤ length ps → starts_with start_code ps ≡ false → read ps ≡ refused_key ps
  unfolding read refused_key
  start_refused h s = simp (le-ltb (length ps) 22 h, s)

  pub key_refused : 22 ≤ length ps → starts_with start_code ps ≡ true → read_key ps ≡ refused 5 → read ps ≡ refused_key ps
  unfolding read refused_key
  key_refused h s e = simp (le-ltb (length ps) 22 h, s, e)

  pub house_wrong : spelled (slice 4 12 ps) ≡ refused 5 → read_key ps ≡ refused 5
  unfolding read_key
  house_wrong e = simp e

  module _ (h : ℕ) (eh : spelled (slice 4 12 ps) ≡ accepted h) where
    pub key_wrong : spelled (slice 12 20 ps) ≡ refused 5 → read_key ps ≡ refused 5
    unfolding read_key
    key_wrong e = simp (eh, e)

    module _ (k : ℕ) (ek : spelled (slice 12 20 ps) ≡ accepted k) where
      pub d16_wrong : spelled (slice 20 22 ps) ≡ refused 5 → read_key ps ≡ refused 5
      unfolding read_key
      d16_wrong e = simp (eh, ek, e)

      module _ (d : ℕ) (ed : spelled (slice 20 22 ps) ≡ accepted d) where
        pub key_read : read_key ps ≡ by_codes ps h k d
        unfolding read_key by_codes
        key_read = simp (eh, ek, ed)

  module _ (h k d : ℕ) where
    pub codes_unit : d ≡ 0 → by_codes ps h k d ≡ ending 22 ps (unit (index_of h) (index_of k + 1))
    unfolding by_codes
    codes_unit e = simp (eq-eqb d 0 e)

    pub unit-accepted : d ≡ 0 → length ps ≤ 22 → by_codes ps h k d ≡ accepted (unit (index_of h) (index_of k + 1))
    unit-accepted e l = codes_unit e ∙ ends ps (unit (index_of h) (index_of k + 1)) 22 l

    pub codes_function : (d ≡ 0 → ⊥) → by_codes ps h k d ≡ read_function ps h k
    unfolding by_codes
    codes_function e = simp (ne_eqb d 0 e)

  module _ (h k : ℕ) where
    pub function-extended : k ≡ extended1 → read_function ps h k ≡ read_rest ps h
    unfolding read_function
    function-extended e = simp (eq-eqb k extended1 e)

    pub function_unknown : (r : ℕ) → (k ≡ extended1 → ⊥) → function_of k ≡ refused r → read_function ps h k ≡ refused r
    unfolding read_function
    function_unknown r n e = simp (ne_eqb k extended1 n, e)

    pub function_known : (f : Function) → (k ≡ extended1 → ⊥) → function_of k ≡ accepted f
        → read_function ps h k ≡ ending 22 ps (function (index_of h) f)
    unfolding read_function
    function_known f n e = simp (ne_eqb k extended1 n, e)

    pub function-accepted : (f : Function) → (k ≡ extended1 → ⊥) → function_of k ≡ accepted f → length ps ≤ 22
        → read_function ps h k ≡ accepted (function (index_of h) f)
    function-accepted f n e l = function_known f n e ∙ ends ps (function (index_of h) f) 22 l

  module _ (h : ℕ) where
    pub rest_short : length ps < 62 → read_rest ps h ≡ refused 1
    unfolding read_rest
    rest_short l = simp (lt-ltb (length ps) 62 l)

    module _ (l : 62 ≤ length ps) where
      pub rest_key_wrong : spelled (slice 22 30 ps) ≡ refused 5 → read_rest ps h ≡ refused_rest ps
      unfolding read_rest refused_rest
      rest_key_wrong e = simp (le-ltb (length ps) 62 l, e)

      module _ (k : ℕ) (ek : spelled (slice 22 30 ps) ≡ accepted k) where
        pub data_wrong : spelled (slice 30 46 ps) ≡ refused 5 → read_rest ps h ≡ refused_rest ps
        unfolding read_rest refused_rest
        data_wrong e = simp (le-ltb (length ps) 62 l, ek, e)

        module _ (d : ℕ) (ed : spelled (slice 30 46 ps) ≡ accepted d) where
          pub command_wrong : spelled (slice 46 62 ps) ≡ refused 5 → read_rest ps h ≡ refused_rest ps
          unfolding read_rest refused_rest
          command_wrong e = simp (le-ltb (length ps) 62 l, ek, ed, e)

          module _ (v : are_places (slice 22 62 ps) ≡ true) (c : ℕ) (ec : spelled (slice 46 62 ps) ≡ accepted c) where
            pub rest_read : read_rest ps h ≡ ending 62 ps (extended (index_of h) (index_of k + 1) d c)
            unfolding read_rest
            rest_read = simp (le-ltb (length ps) 62 l, v, ek, ed, ec)

            pub rest-accepted : length ps ≤ 62 → read_rest ps h ≡ accepted (extended (index_of h) (index_of k + 1) d c)
            rest-accepted t = rest_read ∙ ends ps (extended (index_of h) (index_of k + 1) d c) 62 t
