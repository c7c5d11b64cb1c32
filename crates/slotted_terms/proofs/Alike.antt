-- Terms that are equal without bound names have nodes that agree but for names and children, and equally many children.
use Rattle.std.proofs.Common.{◌≡◌, ℕ, suc, ◌<◌, List, [], ◌∷◌, length, take, drop, refl, slice_index, ap, ◌∙◌, sym, arith, length-take, length-drop}
use Rattle.std.proofs.lemmas.List.Elements.{All-head, All-tail, All-take, All-drop}
use Rattle.std.proofs.Math.Nat.{suc_inj}
use Rattle.slotted_theory.specs.Term.{Term}
use Rattle.slotted_theory.specs.Nameless.{DTerm, extend, nameless_args, nameless_by}
use Rattle.slotted_theory.specs.Shape.{number_in}
use Rattle.std.specs.Prelude.{◌↔◌}
use Rattle.slotted_nodes.specs.Form.{Form, Tree, leaf, own, child, bind, scopes, children}
use Rattle.slotted_languages.specs.Filled.{filled, children_args, term_of}
use Rattle.slotted_languages.specs.Outline.{outlined, outlined_form}
use Rattle.slotted_languages.proofs.Outlines.{length_children-outlined, filled-outlined}
use Rattle.slotted_outlines.specs.Seen.{AreTerms, AreAlike, AreOutlines, AreMatched, owns, stacks, seen, owns_seen, children_seen}
use Rattle.slotted_outlines.proofs.Seen.{same_from_seen, seen_from_same}

module _ (ρ σ : ℕ → ℕ) where
  -- rows of children that are equal are equally long
  row_length : (ts us : List Term) → nameless_args ρ (children_args ts) ≡ nameless_args σ (children_args us) → length ts ≡ length us
  row_length [] [] h = refl
  row_length [] (u ∷ us) h = cc
  row_length (t ∷ ts) [] h = cc
  row_length (t ∷ ts) (u ∷ us) h =
      let q : nameless_args ρ (children_args ts) ≡ nameless_args σ (children_args us) = cc in
      ap suc (row_length ts us q)

  -- the first of some terms is no hole
  no_hole : (t : Term) (ts : List Term) → AreTerms (t ∷ ts) → t.op ≡ 0 → ⊥
  no_hole t ts w e = let h = All-head (λ (s : Term). 0 < s.op) t ts w in omega arith

pub record Agree (u v : Tree) (ts us : List Term) : Type 0 where
  pub tree : outlined u ≡ outlined v
  pub count : length ts ≡ length us

pub agree : (ρ σ : ℕ → ℕ) (u v : Tree) (xs ys : List ℕ) (ts us : List Term) → AreTerms ts → AreTerms us → nameless_args ρ (filled u xs ts) ≡ nameless_args σ (filled v ys us) → Agree u v ts us
agree ρ σ leaf leaf xs ys [] [] a b h = record { tree = refl; count = refl }
agree ρ σ leaf leaf xs ys [] (s ∷ us) a b h = cc
agree ρ σ leaf leaf xs ys (t ∷ ts) [] a b h = cc
agree ρ σ leaf leaf xs ys (t ∷ ts) (s ∷ us) a b h =
    let q : nameless_args ρ (children_args (t ∷ ts)) ≡ nameless_args σ (children_args (s ∷ us)) = cc in
    record { tree = refl; count = row_length ρ σ (t ∷ ts) (s ∷ us) q }
agree ρ σ leaf (own r) xs ys [] us a b h = cc
agree ρ σ leaf (own r) xs ys (t ∷ ts) us a b h = cc
agree ρ σ leaf (child j ks r) xs ys [] [] a b h = cc
agree ρ σ leaf (child j ks r) xs ys [] (s ∷ us) a b h = cc
agree ρ σ leaf (child j ks leaf) xs ys (t ∷ ts) [] a b h = cc
agree ρ σ leaf (child j ks (own r)) xs ys (t ∷ ts) [] a b h = cc
agree ρ σ leaf (child j ks (child i ls r)) xs ys (t ∷ ts) [] a b h = let e : t.op ≡ 0 = cc in absurd (no_hole ρ σ t ts a e)
agree ρ σ leaf (child j ks (bind w r)) xs ys (t ∷ ts) [] a b h = cc
agree ρ σ leaf (child j ks r) xs ys (t ∷ ts) (s ∷ us) a b h = let e : s.op ≡ 0 = cc in absurd (no_hole ρ σ s us b e)
agree ρ σ leaf (bind w r) xs ys [] us a b h = cc
agree ρ σ leaf (bind w r) xs ys (t ∷ ts) us a b h = cc
agree ρ σ (own q) leaf xs ys ts [] a b h = cc
agree ρ σ (own q) leaf xs ys ts (s ∷ us) a b h = cc
agree ρ σ (own q) (own r) xs ys ts us a b h =
    let p : nameless_args ρ (filled q (drop 1 xs) ts) ≡ nameless_args σ (filled r (drop 1 ys) us) = cc in
    let i = agree ρ σ q r (drop 1 xs) (drop 1 ys) ts us a b p in
    record { tree = ap own i.tree; count = i.count }
agree ρ σ (own q) (child j ks r) xs ys ts [] a b h = cc
agree ρ σ (own q) (child j ks r) xs ys ts (s ∷ us) a b h = cc
agree ρ σ (own q) (bind w r) xs ys ts us a b h = cc
agree ρ σ (child j ks q) leaf xs ys [] [] a b h = cc
agree ρ σ (child j ks q) leaf xs ys (t ∷ ts) [] a b h = cc
agree ρ σ (child j ks leaf) leaf xs ys [] (s ∷ us) a b h = cc
agree ρ σ (child j ks (own r)) leaf xs ys [] (s ∷ us) a b h = cc
agree ρ σ (child j ks (child i ls r)) leaf xs ys [] (s ∷ us) a b h = let e : s.op ≡ 0 = cc in absurd (no_hole ρ σ s us b e)
agree ρ σ (child j ks (bind w r)) leaf xs ys [] (s ∷ us) a b h = cc
agree ρ σ (child j ks q) leaf xs ys (t ∷ ts) (s ∷ us) a b h = let e : t.op ≡ 0 = cc in absurd (no_hole ρ σ t ts a e)
agree ρ σ (child j ks q) (own r) xs ys [] us a b h = cc
agree ρ σ (child j ks q) (own r) xs ys (t ∷ ts) us a b h = cc
agree ρ σ (child j ks q) (child i ls r) xs ys [] [] a b h =
    let p : nameless_args ρ (filled q (drop (length ks) xs) []) ≡ nameless_args σ (filled r (drop (length ls) ys) []) = cc in
    let i = agree ρ σ q r (drop (length ks) xs) (drop (length ls) ys) [] [] a b p in
    record { tree = ap (child 0 (0 ∷ [])) i.tree; count = refl }
agree ρ σ (child j ks q) (child i ls r) xs ys [] (s ∷ us) a b h = let e : s.op ≡ 0 = cc in absurd (no_hole ρ σ s us b e)
agree ρ σ (child j ks q) (child i ls r) xs ys (t ∷ ts) [] a b h = let e : t.op ≡ 0 = cc in absurd (no_hole ρ σ t ts a e)
agree ρ σ (child j ks q) (child i ls r) xs ys (t ∷ ts) (s ∷ us) a b h =
    let p : nameless_args ρ (filled q (drop (length ks) xs) ts) ≡ nameless_args σ (filled r (drop (length ls) ys) us) = cc in
    let i = agree ρ σ q r (drop (length ks) xs) (drop (length ls) ys) ts us (All-tail (λ (s : Term). 0 < s.op) t ts a) (All-tail (λ (s : Term). 0 < s.op) s us b) p in
    record { tree = ap (child 0 (0 ∷ [])) i.tree; count = ap suc i.count }
agree ρ σ (child j ks q) (bind w r) xs ys [] us a b h = cc
agree ρ σ (child j ks q) (bind w r) xs ys (t ∷ ts) us a b h = cc
agree ρ σ (bind v q) leaf xs ys ts [] a b h = cc
agree ρ σ (bind v q) leaf xs ys ts (s ∷ us) a b h = cc
agree ρ σ (bind v q) (own r) xs ys ts us a b h = cc
agree ρ σ (bind v q) (child j ks r) xs ys ts [] a b h = cc
agree ρ σ (bind v q) (child j ks r) xs ys ts (s ∷ us) a b h = cc
agree ρ σ (bind v q) (bind w r) xs ys ts us a b h =
    let k = length (children v) in
    let l = length (children w) in
    let x = slice_index xs 0 in
    let y = slice_index ys 0 in
    let P : Term → Type 0 = λ t. 0 < t.op in
    let pi : nameless_args (extend x ρ) (filled v (take (length (scopes v)) (drop 1 xs)) (take k ts)) ≡ nameless_args (extend y σ) (filled w (take (length (scopes w)) (drop 1 ys)) (take l us)) = cc in
    let pr : nameless_args ρ (filled q (drop (length (scopes v)) (drop 1 xs)) (drop k ts)) ≡ nameless_args σ (filled r (drop (length (scopes w)) (drop 1 ys)) (drop l us)) = cc in
    let inner = agree (extend x ρ) (extend y σ) v w (take (length (scopes v)) (drop 1 xs)) (take (length (scopes w)) (drop 1 ys)) (take k ts) (take l us) (All-take P k ts a) (All-take P l us b) pi in
    let rest = agree ρ σ q r (drop (length (scopes v)) (drop 1 xs)) (drop (length (scopes w)) (drop 1 ys)) (drop k ts) (drop l us) (All-drop P k ts a) (All-drop P l us b) pr in
    let c = ap (λ t. length (children t)) inner.tree in
    record {
      tree = λ i. bind (inner.tree i) (rest.tree i);
      count = omega (arith, inner.count, rest.count, length-take k ts, length-take l us, length-drop k ts, length-drop l us, length_children-outlined v, length_children-outlined w);
    }

-- equal terms have nodes that are alike
pub alike : (ρ σ : ℕ → ℕ) (a b : Form) (ts us : List Term) → AreTerms ts → AreTerms us → nameless_by ρ (term_of a ts) ≡ nameless_by σ (term_of b us) → AreAlike a b × (length ts ≡ length us)
alike ρ σ a b ts us v w h =
    let r = agree ρ σ a.tree b.tree a.names b.names ts us v w (ap (λ (d : DTerm). d.args) h) in
    (record { operator = suc_inj (ap (λ (d : DTerm). d.op) h); payloads = ap (λ (d : DTerm). d.payloads) h; tree = r.tree }, r.count)

-- the outline of a node has its arguments
filled_outline : (a f : Form) (ts : List Term) → f ≡ outlined_form 0 a → filled a.tree a.names ts ≡ filled f.tree f.names ts
filled_outline a f ts e = sym (filled-outlined 0 a.tree a.names ts) ∙ ap (λ h. filled h.tree h.names ts) (sym e)

-- terms over outlines are equal where they are seen alike
pub term_same : (a b f g s : Form) (bs cs : List ℕ) (ts us : List Term) → AreOutlines a b f g → AreMatched f g s → length ts ≡ length us → (nameless_by (number_in bs) (term_of a ts) ≡ nameless_by (number_in cs) (term_of b us)) ↔ ((owns_seen f bs ≡ owns_seen g cs) × (children_seen f bs ts ≡ children_seen g cs us))
term_same a b f g s bs cs ts us o m n =
    let l = filled_outline a f ts o.left ∙ ap (λ t. filled t f.names ts) (sym m.outline) in
    let r = filled_outline b g us o.right ∙ ap (λ t. filled t g.names us) (m.same ∙ sym m.outline) in
    let p = ap (λ t. owns cs t g.names) m.same in
    let q = ap (λ t. seen cs (stacks cs t g.names) us) m.same in (
      λ h.
          let d = ap (nameless_args (number_in bs)) (sym l) ∙ (ap (λ (d : DTerm). d.args) h ∙ ap (nameless_args (number_in cs)) r) in
          let v = seen_from_same bs cs f.tree f.names g.names ts us n d in
          (v.0 ∙ sym p, v.1 ∙ sym q),
      λ h.
          let d = ap (nameless_args (number_in bs)) l ∙ (same_from_seen bs cs f.tree f.names g.names ts us n (h.0 ∙ p) (h.1 ∙ q) ∙ ap (nameless_args (number_in cs)) (sym r)) in
          λ i. record { op = suc (o.alike.operator i); payloads = o.alike.payloads i; args = d i },
    )
