-- Keys of classes, joined with the slots for their numbers.
use Rattle.std.proofs.Common.{◌≡◌, ℕ, zero, suc, ◌<◌, ◌≤◌, List, [], ◌∷◌, ◌++◌, length, Option, Some, None, sym, ◌∙◌, ap, refl, arith}
use Rattle.std.specs.Prelude.{IfSome, IfNone, set, slice_index_or}
use Rattle.slotted_nodes.specs.Form.{Form}
use Rattle.slotted_hashcons.specs.Filed.{Filing, HasKey, IsNewKey, HasKeysOnce, filed_of, with_names, joined}

pub length-joined : (ks : List (Option Filing)) (ms : List (List (ℕ × ℕ))) → length ks ≤ length ms → length (joined ks ms) ≡ length ks
length-joined [] ms w = refl
length-joined (k ∷ ks) [] w = absurd (omega (arith, w))
length-joined (k ∷ ks) (m ∷ ms) w = ap suc (length-joined ks ms (omega (arith, w)))

-- what is filed of a class
pub joined-at : (ks : List (Option Filing)) (ms : List (List (ℕ × ℕ))) (i : ℕ) → length ks ≤ length ms → filed_of (joined ks ms) i ≡ with_names (slice_index_or ms i []) (filed_of ks i)
joined-at [] ms i w = refl
joined-at (k ∷ ks) [] i w = absurd (omega (arith, w))
joined-at (k ∷ ks) (m ∷ ms) zero w = refl
joined-at (k ∷ ks) (m ∷ ms) (suc i) w = joined-at ks ms i (omega (arith, w))

-- maps of classes that are not there change nothing
pub joined-longer : (ks : List (Option Filing)) (ms : List (List (ℕ × ℕ))) (x : List (ℕ × ℕ)) → length ks ≤ length ms → joined ks (ms ++ x ∷ []) ≡ joined ks ms
joined-longer [] ms x w = refl
joined-longer (k ∷ ks) [] x w = absurd (omega (arith, w))
joined-longer (k ∷ ks) (m ∷ ms) x w = λ i. with_names m k ∷ joined-longer ks ms x (omega (arith, w)) i

-- one class more, of which nothing is filed
pub joined-added : (ks : List (Option Filing)) (ms : List (List (ℕ × ℕ))) (x : List (ℕ × ℕ)) → length ks ≤ length ms → joined (ks ++ None ∷ []) (ms ++ x ∷ []) ≡ joined ks ms ++ None ∷ []
joined-added [] [] x w = refl
joined-added [] (m ∷ ms) x w = refl
joined-added (k ∷ ks) [] x w = absurd (omega (arith, w))
joined-added (k ∷ ks) (m ∷ ms) x w = λ i. with_names m k ∷ joined-added ks ms x (omega (arith, w)) i

-- another key with another map
pub joined-set : (ks : List (Option Filing)) (ms : List (List (ℕ × ℕ))) (i : ℕ) (k : Option Filing) (m : List (ℕ × ℕ)) → length ks ≤ length ms → joined (set ks i k) (set ms i m) ≡ set (joined ks ms) i (with_names m k)
joined-set [] ms i k m w = refl
joined-set (x ∷ ks) [] i k m w = absurd (omega (arith, w))
joined-set (x ∷ ks) (y ∷ ms) zero k m w = refl
joined-set (x ∷ ks) (y ∷ ms) (suc i) k m w = λ j. with_names y x ∷ joined-set ks ms i k m (omega (arith, w)) j

-- a key that is taken out
pub joined-none : (ks : List (Option Filing)) (ms : List (List (ℕ × ℕ))) (i : ℕ) → length ks ≤ length ms → joined (set ks i None) ms ≡ set (joined ks ms) i None
joined-none [] ms i w = refl
joined-none (x ∷ ks) [] i w = absurd (omega (arith, w))
joined-none (x ∷ ks) (y ∷ ms) zero w = refl
joined-none (x ∷ ks) (y ∷ ms) (suc i) w = λ j. with_names y x ∷ joined-none ks ms i (omega (arith, w)) j

-- a key has the same class with its map and without
abbrev key-or : Form → Option Filing → Form
key-or f None = f
key-or f (Some x) = x.0

some-named : (m : List (ℕ × ℕ)) (o : Option Filing) (f : Form) (n : List (ℕ × ℕ)) → with_names m o ≡ Some (f, n) → (k : List (ℕ × ℕ)) × (o ≡ Some (f, k))
some-named m None f n e = cc
some-named m (Some x) f n e = (x.1, ap (λ k. Some (k, x.1)) (ap (key-or x.0) e))

module _ (ks : List (Option Filing)) (ms : List (List (ℕ × ℕ))) (w : length ks ≤ length ms) where
  pub joined-key : (i : ℕ) (f : Form) → HasKey ks i f → HasKey (joined ks ms) i f
  joined-key i f h = (slice_index_or ms i [], joined-at ks ms i w ∙ ap (with_names (slice_index_or ms i [])) h.1)

  pub key-joined : (i : ℕ) (f : Form) → HasKey (joined ks ms) i f → HasKey ks i f
  key-joined i f h = some-named (slice_index_or ms i []) (filed_of ks i) f h.0 (sym (joined-at ks ms i w) ∙ h.1)

  pub joined-once : HasKeysOnce ks → HasKeysOnce (joined ks ms)
  joined-once o i j f h k = o i j f (key-joined i f h) (key-joined j f k)

  pub joined-new : (f : Form) → IsNewKey ks f → IsNewKey (joined ks ms) f
  joined-new f n i h = n i (key-joined i f h)

  pub new-joined : (f : Form) → IsNewKey (joined ks ms) f → IsNewKey ks f
  new-joined f n i h = n i (joined-key i f h)

  pub some-joined : (f : Form) (o : Option ℕ) → IfSome o (λ i. HasKey ks i f) → IfSome o (λ i. HasKey (joined ks ms) i f)
  some-joined f None h = h
  some-joined f (Some i) h = joined-key i f h

  pub none-joined : (f : Form) (o : Option ℕ) → IfNone o (IsNewKey ks f) → IfNone o (IsNewKey (joined ks ms) f)
  none-joined f None h = joined-new f h
  none-joined f (Some i) h = h

-- a class of which a key is filed is there
pub filed-within : (ks : List (Option Filing)) (i : ℕ) (x : Filing) → filed_of ks i ≡ Some x → i < length ks
filed-within [] i x e = cc
filed-within (k ∷ ks) zero x e = omega arith
filed-within (k ∷ ks) (suc i) x e = let w = filed-within ks i x e in omega (arith, w)

-- where nothing is filed with a map nothing is filed without
pub none-named : (m : List (ℕ × ℕ)) (o : Option Filing) → with_names m o ≡ None → o ≡ None
none-named m None e = refl
none-named m (Some x) e = cc
