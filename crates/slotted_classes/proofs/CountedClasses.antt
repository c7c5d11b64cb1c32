-- What is counted beside the classes stays right with each write: a new class, a link, and a drop of slots.
use Rattle.std.proofs.Common.{◌≡◌, ◌≢◌, ◌<◌, ◌≤◌, ◌+◌, ◌-◌, ◌*◌, ◌^◌, ℕ, zero, suc, List, [], ◌∷◌, ◌++◌, length, set, ap, sym, refl, ◌∙◌, subst, arith, inl, inr}
use Rattle.std.specs.Prelude.{Contains}
use Rattle.std.proofs.lemmas.Bool.{cases_eq}
use Rattle.std.proofs.Math.Seq.{get_or-append_seam}
use Rattle.std.proofs.lemmas.List.{get_or-set_same, get_or-set_other, get_or_append_left, length-append, length-set, map-append}
use Rattle.std.proofs.lemmas.List.Elements.{Contains-append_left, Contains-append_right, Contains-append_cases}
use Rattle.slotted_model.specs.Find.{Entry, IsLive, entry_at}
use Rattle.slotted_model.specs.Rest.{entry_size, size_from}
use Rattle.slotted_model.proofs.Rebuilding.Events.{entry_size-live, entry_size-dead}
use Rattle.slotted_classes.specs.Kept.{Kept, ClassEntry, AreNarrow, IsCounted, ListsDead, entries_in, entries_of, find_at}
use Rattle.slotted_classes.proofs.DeadClasses.{dead-again, dead-kept, dead-linked, dead-more}
use Rattle.slotted_classes.proofs.KeptLists.{entry_at-of, length-entries_of, length-mapped}
use Rattle.slotted_classes.proofs.Sizes.{size-set, size-within, size-more, size-few}
use Rattle.slotted_classes.proofs.Writes.{written, written-entries}

-- what stands in lists of entries with another member, and with one more

abbrev none : Entry
none = record { class = 0; pairs = []; proof = 0; died = 0 }

at_set : (es : List Entry) (i : ℕ) (x : Entry) → i < length es → entry_at (set es i x) i ≡ x
at_set es i x l = get_or-set_same es i x none l

beside_set : (es : List Entry) (i j : ℕ) (x : Entry) → j ≢ i → entry_at (set es i x) j ≡ entry_at es j
beside_set es i j x n = get_or-set_other es i j x none n

at_older : (es : List Entry) (j : ℕ) (x : Entry) → j < length es → entry_at (es ++ x ∷ []) j ≡ entry_at es j
at_older es j x l = get_or_append_left es (x ∷ []) none j l

at_last : (es : List Entry) (x : Entry) → entry_at (es ++ x ∷ []) (length es) ≡ x
at_last es x = get_or-append_seam es x [] none

-- each has few slots, and the next one too
narrow-set : (es : List Entry) (i : ℕ) (x : Entry) → i < length es → entry_size i x ≤ 2 ^ 64 → AreNarrow es → AreNarrow (set es i x)
narrow-set es i x l few narrow j h = elim (cases_eq j i) [
  | inl e ↦
      let is : entry_at (set es i x) j ≡ x = subst (λ k. entry_at (set es i x) k ≡ x) (sym e) (at_set es i x l) in
      subst (λ y. entry_size j y ≤ 2 ^ 64) (sym is) (subst (λ k. entry_size k x ≤ 2 ^ 64) (sym e) few)
  | inr n ↦ subst (λ y. entry_size j y ≤ 2 ^ 64) (sym (beside_set es i j x n)) (narrow j (omega (arith, h, length-set es i x)))
]

narrow-more : (es : List Entry) (x : Entry) → entry_size (length es) x ≤ 2 ^ 64 → AreNarrow es → AreNarrow (es ++ x ∷ [])
narrow-more es x few narrow j h = elim (cases_eq j (length es)) [
  | inl e ↦
      let is : entry_at (es ++ x ∷ []) j ≡ x = subst (λ k. entry_at (es ++ x ∷ []) k ≡ x) (sym e) (at_last es x) in
      subst (λ y. entry_size j y ≤ 2 ^ 64) (sym is) (subst (λ k. entry_size k x ≤ 2 ^ 64) (sym e) few)
  | inr n ↦
      let l : j < length es = omega (arith, h, n, length-append es (x ∷ [])) in
      subst (λ y. entry_size j y ≤ 2 ^ 64) (sym (at_older es j x l)) (narrow j l)
]

-- all of them are few
pub size-bound : (es : List Entry) → AreNarrow es → length es ≤ 2 ^ 63 → size_from 0 es < 2 ^ 128
size-bound es narrow l =
    let s : size_from 0 es ≤ length es * 2 ^ 64 = size-few 0 (2 ^ 64) es (λ i h. let z : i ≡ 0 + i = omega arith in subst (λ k. entry_size k (entry_at es i) ≤ 2 ^ 64) z (narrow i h)) in
    omega (arith, s, l)

-- the classes that died, after a write and after one more class

live-beside : (es : List Entry) (i j : ℕ) (x : Entry) → j ≢ i → IsLive (set es i x) j → IsLive es j
live-beside es i j x n = subst (λ (y : Entry). y.class ≡ j) (beside_set es i j x n)

live-beside_back : (es : List Entry) (i j : ℕ) (x : Entry) → j ≢ i → IsLive es j → IsLive (set es i x) j
live-beside_back es i j x n = subst (λ (y : Entry). y.class ≡ j) (sym (beside_set es i j x n))

the_one : (i j : ℕ) → Contains (i ∷ []) j → j ≡ i
the_one i j (zero, l, e) = sym e
the_one i j (suc n, l, e) = absurd (omega (arith, l))

one-there : (i : ℕ) → Contains (i ∷ []) i
one-there i = (0, omega arith, refl)

dead-link : (es : List Entry) (ds : List ℕ) (i : ℕ) (x : Entry) → i < length es → IsLive es i → x.class ≢ i → ListsDead ds es → ListsDead (ds ++ i ∷ []) (set es i x)
dead-link es ds i x l live led lists j = (
  λ c. elim (Contains-append_cases ds (i ∷ []) j c) [
    | inl old ↦
        let d = (lists j).0 old in
        let n : j ≢ i = λ e. d.1 (subst (IsLive es) (sym e) live) in
        (omega (arith, d.0, length-set es i x), λ y. d.1 (live-beside es i j x n y))
    | inr new ↦
        let e : j ≡ i = the_one i j new in
        (omega (arith, e, l, length-set es i x), λ y. led (sym (subst (λ (z : Entry). i ≡ z.class) (at_set es i x l) (sym (subst (IsLive (set es i x)) e y)))))
  ],
  λ d. elim (cases_eq j i) [
    | inl e ↦ subst (Contains (ds ++ i ∷ [])) (sym e) (Contains-append_right ds (i ∷ []) i (one-there i))
    | inr n ↦ Contains-append_left ds (i ∷ []) j ((lists j).1 (omega (arith, d.0, length-set es i x), λ y. d.1 (live-beside_back es i j x n y)))
  ],
)

dead-same : (es : List Entry) (ds : List ℕ) (i : ℕ) (x : Entry) → i < length es → IsLive es i → x.class ≡ i → ListsDead ds es → ListsDead ds (set es i x)
dead-same es ds i x l live lives lists j = (
  λ c.
      let d = (lists j).0 c in
      let n : j ≢ i = λ e. d.1 (subst (IsLive es) (sym e) live) in
      (omega (arith, d.0, length-set es i x), λ y. d.1 (live-beside es i j x n y)),
  λ d.
      let n : j ≢ i = λ e. d.1 (subst (IsLive (set es i x)) (sym e) (subst (λ (z : Entry). z.class ≡ i) (sym (at_set es i x l)) lives)) in
      (lists j).1 (omega (arith, d.0, length-set es i x), λ y. d.1 (live-beside_back es i j x n y)),
)

dead-stays : (es : List Entry) (ds : List ℕ) (i : ℕ) (x : Entry) → i < length es → ¬ IsLive es i → x.class ≢ i → ListsDead ds es → ListsDead ds (set es i x)
dead-stays es ds i x l dead led lists j = (
  λ c. let d = (lists j).0 c in elim (cases_eq j i) [
    | inl e ↦ (omega (arith, d.0, length-set es i x), λ y. led (subst (λ (z : Entry). z.class ≡ i) (at_set es i x l) (subst (IsLive (set es i x)) e y)))
    | inr n ↦ (omega (arith, d.0, length-set es i x), λ y. d.1 (live-beside es i j x n y))
  ],
  λ d. elim (cases_eq j i) [
    | inl e ↦ (lists j).1 (omega (arith, d.0, length-set es i x), λ y. dead (subst (IsLive es) e y))
    | inr n ↦ (lists j).1 (omega (arith, d.0, length-set es i x), λ y. d.1 (live-beside_back es i j x n y))
  ],
)

dead-new : (es : List Entry) (ds : List ℕ) (x : Entry) → x.class ≡ length es → ListsDead ds es → ListsDead ds (es ++ x ∷ [])
dead-new es ds x lives lists j = (
  λ c.
      let d = (lists j).0 c in
      (omega (arith, d.0, length-append es (x ∷ [])), λ y. d.1 (subst (λ (z : Entry). z.class ≡ j) (at_older es j x d.0) y)),
  λ d.
      let n : j ≢ length es = λ e. d.1 (subst (IsLive (es ++ x ∷ [])) (sym e) (subst (λ (z : Entry). z.class ≡ length es) (sym (at_last es x)) lives)) in
      let l : j < length es = omega (arith, d.0, n, length-append es (x ∷ [])) in
      (lists j).1 (l, λ y. d.1 (subst (λ (z : Entry). z.class ≡ j) (sym (at_older es j x l)) y)),
)

-- the live class i of a store gets the entry x
module _ (k : Kept) (size : ℕ) (is : IsCounted k.moment size k.deaths k.classes) (i : ℕ) (within : i < length k.classes) (live : IsLive (entries_of k) i) (x : Entry) where
  abbrev before : ℕ
  before = suc (length (find_at k i).pairs)

  inside : i < length (entries_of k)
  inside = omega (arith, within, length-entries_of k)

  stood : entry_size i (entry_at (entries_of k) i) ≡ before
  stood = entry_size-live i (entry_at (entries_of k) i) live ∙ ap (λ (e : Entry). suc (length e.pairs)) (entry_at-of k i)

  -- it counts for no more than all
  pub counts-within : before ≤ size
  counts-within = omega (arith, size-within 0 i i (entries_of k) (omega arith) inside, stood, is.sized)

  written-size : size_from 0 (entries_in (written k i x)) + before ≡ size + entry_size i x
  written-size = omega (arith, size-set 0 i i (entries_of k) x (omega arith) inside, stood, is.sized, ap (size_from 0) (written-entries k i x))

  -- it dies
  pub counted-linked : x.class ≢ i → IsCounted (suc k.moment) (size - before) (k.deaths ++ i ∷ []) (written k i x)
  counted-linked led = record {
    links = omega (arith, is.links, dead-linked k i within live x led);
    sized = omega (arith, written-size, entry_size-dead i x led);
    narrow = subst AreNarrow (sym (written-entries k i x)) (narrow-set (entries_of k) i x inside (omega (arith, entry_size-dead i x led)) is.narrow);
    dead = subst (ListsDead (k.deaths ++ i ∷ [])) (sym (written-entries k i x)) (dead-link (entries_of k) k.deaths i x inside live led is.dead);
  }

  -- it gets other slots
  pub counted-kept : x.class ≡ i → suc (length x.pairs) ≤ 2 ^ 64 → IsCounted k.moment (size - before + suc (length x.pairs)) k.deaths (written k i x)
  counted-kept lives few = record {
    links = omega (arith, is.links, dead-kept k i within live x lives);
    sized = omega (arith, written-size, entry_size-live i x lives, counts-within);
    narrow = subst AreNarrow (sym (written-entries k i x)) (narrow-set (entries_of k) i x inside (omega (arith, entry_size-live i x lives, few)) is.narrow);
    dead = subst (ListsDead k.deaths) (sym (written-entries k i x)) (dead-same (entries_of k) k.deaths i x inside live lives is.dead);
  }

-- the dead class i gets another entry by which it stays dead
pub counted-shortcut : (k : Kept) (size : ℕ) → IsCounted k.moment size k.deaths k.classes → (i : ℕ) → i < length k.classes → ¬ IsLive (entries_of k) i → (x : Entry) → x.class ≢ i →
    IsCounted k.moment size k.deaths (written k i x)
counted-shortcut k size is i within dead x led =
    let inside : i < length (entries_of k) = omega (arith, within, length-entries_of k) in
    let none_now : entry_size i x ≡ 0 = entry_size-dead i x led in
    record {
      links = omega (arith, is.links, dead-again k i within dead x led);
      sized = omega (arith, size-set 0 i i (entries_of k) x (omega arith) inside, entry_size-dead i (entry_at (entries_of k) i) dead, none_now, is.sized, ap (size_from 0) (written-entries k i x));
      narrow = subst AreNarrow (sym (written-entries k i x)) (narrow-set (entries_of k) i x inside (omega (arith, none_now)) is.narrow);
      dead = subst (ListsDead k.deaths) (sym (written-entries k i x)) (dead-stays (entries_of k) k.deaths i x inside dead led is.dead);
    }

-- one more class
pub counted-more : (k : Kept) (size : ℕ) → IsCounted k.moment size k.deaths k.classes → (c : ClassEntry) → c.1.class ≡ length k.classes → suc (length c.1.pairs) ≤ 2 ^ 64 →
    IsCounted k.moment (size + suc (length c.1.pairs)) k.deaths (k.classes ++ c ∷ [])
counted-more k size is c lives few =
    let es = entries_of k in
    let new : entries_in (k.classes ++ c ∷ []) ≡ es ++ c.1 ∷ [] = map-append (λ (y : ClassEntry). y.1) k.classes (c ∷ []) in
    let last : c.1.class ≡ length es = omega (arith, lives, length-entries_of k) in
    let one : entry_size (length es) c.1 ≡ suc (length c.1.pairs) = entry_size-live (length es) c.1 last in
    record {
      links = omega (arith, is.links, dead-more 0 k.classes (c ∷ []));
      sized = omega (arith, is.sized, size-more 0 (length es) es c.1 (omega arith), one, ap (size_from 0) new);
      narrow = subst AreNarrow (sym new) (narrow-more es c.1 (omega (arith, one, few)) is.narrow);
      dead = subst (ListsDead k.deaths) (sym new) (dead-new es k.deaths c.1 last is.dead);
    }

-- what is counted of few classes fits
pub counted-few : (moment size : ℕ) (deaths : List ℕ) (classes : List ClassEntry) → IsCounted moment size deaths classes → length classes ≤ 2 ^ 63 → size < 2 ^ 128
counted-few moment size deaths classes is l =
    omega (arith, is.sized, size-bound (entries_in classes) is.narrow (omega (arith, l, length-mapped (λ (y : ClassEntry). y.1) classes)))

-- the same by equal parts
pub counted-same : {m n s t : ℕ} {ds es : List ℕ} {cs bs : List ClassEntry} → m ≡ n → s ≡ t → ds ≡ es → cs ≡ bs → IsCounted m s ds cs → IsCounted n t es bs
counted-same {m} {n} {s} {t} {ds} {es} {cs} {bs} a b c d is =
    subst (λ k. IsCounted k t es bs) a (subst (λ k. IsCounted m k es bs) b (subst (λ k. IsCounted m s k bs) c (subst (λ k. IsCounted m s ds k) d is)))
