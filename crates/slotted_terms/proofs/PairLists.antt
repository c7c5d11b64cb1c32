-- Pairs of terms that are to be compared, and those of the terms under their nodes.
use Rattle.std.proofs.Common.{◌≡◌, ◌<◌, ◌≤◌, ◌+◌, ℕ, zero, suc, List, [], ◌∷◌, ◌++◌, length, take, drop, get_or, slice_index_or, refl, sym, ap, subst, ◌∙◌, arith, inl, inr}
use Rattle.std.specs.Prelude.{◌↔◌, ◌⊎◌}
use Rattle.std.proofs.Math.Seq.{drop-cons}
use Rattle.std.proofs.lemmas.Bool.{cases_eq}
use Rattle.std.proofs.lemmas.List.{get_or_default, take_all, drop_all}
use Rattle.slotted_theory.specs.Nameless.{DTerm, nameless_by}
use Rattle.slotted_theory.specs.Shape.{number_in}
use Rattle.slotted_theory.specs.Term.{Term, done, term_size}
use Rattle.slotted_nodes.specs.Form.{Form}
use Rattle.slotted_languages.specs.Filled.{term_of}
use Rattle.slotted_outlines.specs.declared.outlines.Outlines.{Outlines}
use Rattle.slotted_outlines.specs.Seen.{SameChild, SameChildren, SameTerm, children_seen, lefts, lefts_above, rights, rights_above}
use Rattle.slotted_outlines.proofs.Seen.{child_same, row_seen_same}
use Rattle.slotted_terms.specs.LargeNodes.{HasLargeNode, HaveLargeNode}
use Rattle.slotted_terms.specs.Pairs.{AddsPairs, AreLarge, AreSame, AreSameFrom, AreUnder, IsSame, OpensPair, Rising, SameBelow, binders_of, left_sizes, sizes}
use Rattle.slotted_terms.specs.declared.expr.alpha.Pair.{Pair}
use Rattle.slotted_terms.proofs.LargeNodes.{large_at, large_below}
use Rattle.slotted_terms.proofs.SubtermSizes.{total, total_le-term}

pub same-append : {L : Type 0} (s : List (ℕ × ℕ)) (ps qs : List (Pair L)) → AreSame s (ps ++ qs) ↔ (AreSame s ps × AreSame s qs)
same-append s [] qs = (λ h. (tt, h), λ h. h.1)
same-append s (p ∷ ps) qs =
    let r = same-append s ps qs in
    (λ h. let k = r.0 h.1 in ((h.0, k.0), k.1), λ h. (h.0.0, r.1 (h.0.1, h.1)))

pub under-append : {L : Type 0} (d : ℕ) (P Q : Type 0) (ps qs : List (Pair L)) → AreUnder d P Q ps → AreUnder d P Q qs → AreUnder d P Q (ps ++ qs)
under-append d P Q [] qs h k = k
under-append d P Q (p ∷ ps) qs h k = (h.0, h.1, h.2, under-append d P Q ps qs h.3 k)

pub sizes-append : {L : Type 0} (ps qs : List (Pair L)) → left_sizes (ps ++ qs) ≡ left_sizes ps + left_sizes qs
sizes-append [] qs = omega arith
sizes-append (p ∷ ps) qs = omega (arith, sizes-append ps qs)

sizes-total : (ts : List Term) → sizes ts ≡ total ts
sizes-total [] = refl
sizes-total (t ∷ ts) = omega (arith, sizes-total ts)

-- no pair is added yet
pub pairs-none : {L : Type 0} (f g : Form) (s : List (ℕ × ℕ)) (ts us : List Term) (k : ℕ) (old : List (Pair L)) → old ≡ old ++ [] → length ts ≤ k → AddsPairs f g s ts us k old old
pairs-none f g s ts us k old same all = record {
  added = [];
  joined = same;
  under = tt;
  same = (λ h j t u le lt. absurd (omega (arith, all, le, lt)), λ h. tt);
  light = ap sizes (sym (drop_all k ts all));
}

-- one more is added before those
module _ {L : Type 0} (f g : Form) (s : List (ℕ × ℕ)) (ts us : List Term) (count : length ts ≡ length us) (k j : ℕ) (next : k ≡ suc j) (within : j < length ts) (old mid new : List (Pair L)) (p : AddsPairs f g s ts us k old mid)
    (q : Pair L) (more : new ≡ mid ++ q ∷ []) (depth : q.depth ≡ length s) (one : q.one.now ≡ get_or ts j q.one.now) (two : q.two.now ≡ get_or us j q.two.now)
    (left : lefts (s ++ q.above.items) ≡ lefts_above f s j) (right : rights (s ++ q.above.items) ≡ rights_above g s j) (assoc : (old ++ p.added) ++ q ∷ [] ≡ old ++ (p.added ++ q ∷ [])) where
  stack : binders_of s q ≡ s ++ q.above.items
  stack = ap (λ xs. xs ++ q.above.items) (ap (λ d. take d s) depth ∙ take_all (length s) s (omega arith))

  here : (t u : Term) → (SameTerm (binders_of s q) q.one.now q.two.now) ≡ SameChild f g s j (get_or ts j t) (get_or us j u)
  here t u = λ i. nameless_by (number_in ((ap lefts stack ∙ left) i)) ((one ∙ get_or_default ts j q.one.now t within) i) ≡ nameless_by (number_in ((ap rights stack ∙ right) i)) ((two ∙ get_or_default us j q.two.now u (omega (arith, within, count))) i)

  pub pairs-more : AddsPairs f g s ts us j old new
  pairs-more = record {
    added = p.added ++ q ∷ [];
    joined = more ∙ (ap (λ ps. ps ++ q ∷ []) p.joined ∙ assoc);
    under = under-append (length s) (HaveLargeNode ts) (HaveLargeNode us) p.added (q ∷ []) p.under
        (depth, large_at ts j q.one.now within one, large_at us j q.two.now (omega (arith, within, count)) two, tt);
    same = (
      λ h i t u le lt.
          let parts = (same-append s p.added (q ∷ [])).0 h in
          elim (cases_eq i j) [
            | inl is ↦ subst (λ m. SameChild f g s m (get_or ts m t) (get_or us m u)) (sym is) (subst (λ X. X) (here t u) parts.1.0)
            | inr other ↦ p.same.0 parts.0 i t u (omega (arith, other, le, next)) lt
          ],
      λ h. (same-append s p.added (q ∷ [])).1 (p.same.1 (λ i t u le lt. h i t u (omega (arith, le, next)) lt), (subst (λ X. X) (sym (here q.one.now q.two.now)) (h j q.one.now q.two.now (omega arith) within), tt)),
    );
    light =
        let opened = ap sizes (drop-cons ts j q.one.now within) in
        omega (arith, sizes-append p.added (q ∷ []), p.light, ap (λ n. sizes (drop n ts)) next, opened, ap term_size one);
  }

-- where all children are one, so are the rows
pub all-same : (f g : Form) (s : List (ℕ × ℕ)) (ts us : List Term) → length ts ≡ length us → AreSameFrom f g s ts us 0 ↔ SameChildren f g s ts us
all-same f g s ts us count = (
  λ h. row_seen_same f g (lefts s) (rights s) ts us count
      (λ k d lt. (child k d lt (get_or ts k none) (get_or us k none)).0 (h k none none (omega arith) lt) d),
  λ h j t u le lt. (child_same f g (lefts s) (rights s) ts us j (get_or ts j t) (get_or us j u) lt (omega (arith, lt, count)) (get_or_default ts j t (get_or ts j t) lt) (get_or_default us j u (get_or us j u) (omega (arith, lt, count)))).1
      (λ d. ap (λ xs. slice_index_or xs j d) h),
)
  where
    none : Term
    none = record { op = 0; payloads = []; args = done }

    child : (k : ℕ) (d : DTerm) (lt : k < length ts) (t u : Term) → SameChild f g s k (get_or ts k none) (get_or us k none) ↔ ((e : DTerm) → slice_index_or (children_seen f (lefts s) ts) k e ≡ slice_index_or (children_seen g (rights s) us) k e)
    child k d lt t u = child_same f g (lefts s) (rights s) ts us k (get_or ts k none) (get_or us k none) lt (omega (arith, lt, count)) (get_or_default ts k none (get_or ts k none) lt) (get_or_default us k none (get_or us k none) (omega (arith, lt, count)))

sizes-under : (f : Form) (ts : List Term) → sizes ts ≤ term_size (term_of f ts)
sizes-under f ts = omega (arith, sizes-total ts, total_le-term f ts)

under-map : {L : Type 0} (d e : ℕ) (P Q R S : Type 0) → d ≡ e → (P → R) → (Q → S) → (ps : List (Pair L)) → AreUnder d P Q ps → AreUnder e R S ps
under-map d e P Q R S is f g [] h = tt
under-map d e P Q R S is f g (p ∷ ps) h = (h.0 ∙ is, λ x. f (h.1 x), λ x. g (h.2 x), under-map d e P Q R S is f g ps h.3)

-- a pair gives way to those of the terms under its nodes
module _ {L : Type 0} (form : L → Form) (before after s r : List (ℕ × ℕ)) (p : Pair L) (nodes : Outlines L) (a b : Form) (ts us : List Term) (old new : List (Pair L))
    (s-is : s ≡ binders_of before p) (kept : r ≡ s) (still : after ≡ r) (one : term_of a ts ≡ p.one.now) (two : term_of b us ≡ p.two.now)
    (below : SameBelow form nodes s a b ts us) (o : AddsPairs (form nodes.one) (form nodes.two) r ts us 0 old new) where
  rows : AreSameFrom (form nodes.one) (form nodes.two) r ts us 0 ↔ SameChildren (form nodes.one) (form nodes.two) r ts us
  rows = all-same (form nodes.one) (form nodes.two) r ts us below.count

  whole : SameTerm s (term_of a ts) (term_of b us) ≡ IsSame before p
  whole = λ i. SameTerm (s-is i) (one i) (two i)

  pub opens : OpensPair before after p old new
  opens = record {
    added = o.added;
    joined = o.joined;
    binders = still ∙ (kept ∙ s-is);
    under = under-map (length r) (length after) (HaveLargeNode ts) (HaveLargeNode us) (HasLargeNode p.one.now) (HasLargeNode p.two.now) (ap length (sym still))
        (λ l. subst HasLargeNode one (large_below a ts l)) (λ l. subst HasLargeNode two (large_below b us l)) o.added o.under;
    same = (
      λ h.
          let here = rows.0 (o.same.0 (subst (λ x. AreSame x o.added) still h)) in
          subst (λ X. X) whole (below.children.1 (subst (λ x. SameChildren (form nodes.one) (form nodes.two) x ts us) kept here)),
      λ h.
          let here = below.children.0 (subst (λ X. X) (sym whole) h) in
          subst (λ x. AreSame x o.added) (sym still) (o.same.1 (rows.1 (subst (λ x. SameChildren (form nodes.one) (form nodes.two) x ts us) (sym kept) here))),
    );
    light = omega (arith, o.light, sizes-under a ts, ap term_size one);
  }

-- lists of pairs whose depths rise

rising-low : {L : Type 0} (low high : ℕ) (ps : List (Pair L)) → Rising low ps high → low ≤ high
rising-low low high [] h = h
rising-low low high (p ∷ ps) h = omega (arith, h.0, rising-low p.depth high ps h.1)

rising-last : {L : Type 0} (low high : ℕ) (ps : List (Pair L)) (p : Pair L) → Rising low (ps ++ p ∷ []) high → Rising low ps p.depth × (p.depth ≤ high)
rising-last low high [] p h = (h.0, h.1)
rising-last low high (q ∷ ps) p h = let r = rising-last q.depth high ps p h.1 in ((h.0, r.0), r.1)

rising-join : {L : Type 0} (low mid high : ℕ) (ps qs : List (Pair L)) (P Q : Type 0) → Rising low ps mid → mid ≤ high → AreUnder high P Q qs → Rising low (ps ++ qs) high
rising-join low mid high [] [] P Q h l k = omega (arith, h, l)
rising-join low mid high [] (q ∷ qs) P Q h l k = (omega (arith, h, l, k.0), rising-join q.depth q.depth high [] qs P Q (omega arith) (omega (arith, k.0)) k.3)
rising-join low mid high (p ∷ ps) qs P Q h l k = (h.0, rising-join p.depth mid high ps qs P Q h.1 l k)

-- what is open deeper than the pairs is not seen by them
same-deeper : {L : Type 0} (s t : List (ℕ × ℕ)) (d low : ℕ) → ((e : ℕ) → e ≤ d → take e s ≡ take e t) → (ps : List (Pair L)) → Rising low ps d → AreSame s ps → AreSame t ps
same-deeper s t d low same [] h k = tt
same-deeper s t d low same (p ∷ ps) h k =
    let here : binders_of s p ≡ binders_of t p = ap (λ x. x ++ p.above.items) (same p.depth (rising-low p.depth d ps h.1)) in
    (subst (λ x. SameTerm x p.one.now p.two.now) here k.0, same-deeper s t d p.depth same ps h.1 k.1)

cut-take : (n d : ℕ) (s x : List (ℕ × ℕ)) → n ≤ d → d ≤ length s → take n (take d s ++ x) ≡ take n s
cut-take zero d s x l w = refl
cut-take (suc n) zero s x l w = absurd (omega arith)
cut-take (suc n) (suc d) [] x l w = absurd (omega (arith, w))
cut-take (suc n) (suc d) (y ∷ s) x l w = ap (λ r. y ∷ r) (cut-take n d s x (omega arith) (omega (arith, w)))

large-last : {L : Type 0} (P Q : Type 0) (ps : List (Pair L)) (p : Pair L) → AreLarge P Q (ps ++ p ∷ []) → AreLarge P Q ps × (HasLargeNode p.one.now → P) × (HasLargeNode p.two.now → Q)
large-last P Q [] p h = (tt, h.0, h.1)
large-last P Q (q ∷ ps) p h = let r = large-last P Q ps p h.2 in ((h.0, h.1, r.0), r.1, r.2)

large-join : {L : Type 0} (d : ℕ) (P Q R S : Type 0) → (R → P) → (S → Q) → (ps qs : List (Pair L)) → AreLarge P Q ps → AreUnder d R S qs → AreLarge P Q (ps ++ qs)
large-join d P Q R S f g [] [] h k = tt
large-join d P Q R S f g [] (q ∷ qs) h k = (λ x. f (k.1 x), λ x. g (k.2 x), large-join d P Q R S f g [] qs tt k.3)
large-join d P Q R S f g (p ∷ ps) qs h k = (h.0, h.1, large-join d P Q R S f g ps qs h.2 k)

length-cut : (d : ℕ) (s x : List (ℕ × ℕ)) → d ≤ length s → d ≤ length (take d s ++ x)
length-cut zero s x l = omega arith
length-cut (suc d) [] x l = absurd (omega (arith, l))
length-cut (suc d) (y ∷ s) x l = omega (arith, length-cut d s x (omega (arith, l)))

-- what holds of the pairs that are left, where P and Q are that the whole terms have large nodes, and W that these are one
pub record AreLeft {L : Type 0} (W P Q : Type 0) (stack : List (ℕ × ℕ)) (left : List (Pair L)) : Type 0 where
  pub same : AreSame stack left ↔ W
  pub rising : Rising 0 left (length stack)
  pub large : AreLarge P Q left

module _ {L : Type 0} (W P Q : Type 0) (before : List (ℕ × ℕ)) (left rest : List (Pair L)) (p : Pair L) (last : left ≡ rest ++ p ∷ []) (h : AreLeft W P Q before left) where
  depths : Rising 0 rest p.depth × (p.depth ≤ length before)
  depths = rising-last 0 (length before) rest p (subst (λ x. Rising 0 x (length before)) last h.rising)

  parts : AreLarge P Q rest × (HasLargeNode p.one.now → P) × (HasLargeNode p.two.now → Q)
  parts = large-last P Q rest p (subst (AreLarge P Q) last h.large)

  pub last-large : HasLargeNode p.one.now ⊎ HasLargeNode p.two.now → P ⊎ Q
  last-large (inl l) = inl (parts.1 l)
  last-large (inr l) = inr (parts.2 l)

  pub last-differs : ¬ IsSame before p → W → ⊥
  last-differs differ w = differ ((same-append before rest (p ∷ [])).0 (subst (AreSame before) last (h.same.1 w))).1.0

  module _ (after : List (ℕ × ℕ)) (new : List (Pair L)) (o : OpensPair before after p rest new) where
    still : (e : ℕ) → e ≤ p.depth → take e after ≡ take e before
    still e l = ap (take e) o.binders ∙ cut-take e p.depth before p.above.items l depths.1

    pub left-opened : AreLeft W P Q after new
    left-opened = record {
      same = (
        λ all.
            let two = (same-append after rest o.added).0 (subst (AreSame after) o.joined all) in
            let old = same-deeper after before p.depth 0 still rest depths.0 two.0 in
            h.same.0 (subst (AreSame before) (sym last) ((same-append before rest (p ∷ [])).1 (old, (o.same.0 two.1, tt)))),
        λ w.
            let two = (same-append before rest (p ∷ [])).0 (subst (AreSame before) last (h.same.1 w)) in
            let old = same-deeper before after p.depth 0 (λ e l. sym (still e l)) rest depths.0 two.0 in
            subst (AreSame after) (sym o.joined) ((same-append after rest o.added).1 (old, o.same.1 two.1.0)),
      );
      rising = subst (λ x. Rising 0 x (length after)) (sym o.joined)
          (rising-join 0 p.depth (length after) rest o.added (HasLargeNode p.one.now) (HasLargeNode p.two.now) depths.0 (omega (arith, ap length o.binders, length-cut p.depth before p.above.items depths.1)) o.under);
      large = subst (AreLarge P Q) (sym o.joined) (large-join (length after) P Q (HasLargeNode p.one.now) (HasLargeNode p.two.now) parts.1 parts.2 rest o.added parts.0 o.under);
    }

    pub left-fewer : suc (left_sizes new) ≤ left_sizes left
    left-fewer = omega (arith, ap left_sizes o.joined, sizes-append rest o.added, o.light, ap left_sizes last, sizes-append rest (p ∷ []))
