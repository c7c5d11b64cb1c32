-- A whole term has one node, but for what stands under it, and one row of children.
use Rattle.std.proofs.Common.{◌≡◌, ◌+◌, ℕ, suc, List, [], ◌∷◌, ◌++◌, length, take, drop, slice_index, refl, sym, ap, subst, ◌∙◌, arith, length-append}
use Rattle.std.proofs.Math.Nat.{suc_inj}
use Rattle.std.proofs.lemmas.List.{length-drop, length-take, take-append-drop}
use Rattle.slotted_theory.specs.Term.{Term}
use Rattle.slotted_nodes.specs.Form.{Form, Tree, leaf, own, child, bind, scopes, children}
use Rattle.slotted_languages.specs.Filled.{filled, term_of}
use Rattle.slotted_languages.specs.Outline.{outlined, outlined_form, outlined_names}
use Rattle.slotted_languages.proofs.Outlines.{filled-outlined, length_children-outlined}
use Rattle.slotted_terms.specs.Valid.{IsWhole}
use Rattle.slotted_terms.proofs.TermPatterns.{whole_count}

pub record SameParts (u v : Tree) (xs ys : List ℕ) (ts us : List Term) : Type 0 where
  pub tree : outlined u ≡ outlined v
  pub names : outlined_names 0 u xs ≡ outlined_names 0 v ys
  pub row : ts ≡ us

term_same : (t u : Term) → t.op ≡ u.op → t.payloads ≡ u.payloads → t.args ≡ u.args → t ≡ u
term_same t u a b c = λ i. record { op = a i; payloads = b i; args = c i }

-- arguments that are equal come from one tree, and from one row of terms
pub filled_parts : (u v : Tree) (xs ys : List ℕ) (ts us : List Term) → length ts ≡ length (children u) → length us ≡ length (children v) → filled u xs ts ≡ filled v ys us → SameParts u v xs ys ts us
filled_parts leaf leaf xs ys [] [] a b h = record { tree = refl; names = refl; row = refl }
filled_parts leaf leaf xs ys [] (s ∷ us) a b h = absurd (omega (arith, b))
filled_parts leaf leaf xs ys (t ∷ ts) us a b h = absurd (omega (arith, a))
filled_parts leaf (own r) xs ys [] us a b h = cc
filled_parts leaf (own r) xs ys (t ∷ ts) us a b h = absurd (omega (arith, a))
filled_parts leaf (child j ks r) xs ys [] [] a b h = absurd (omega (arith, b))
filled_parts leaf (child j ks r) xs ys [] (s ∷ us) a b h = cc
filled_parts leaf (child j ks r) xs ys (t ∷ ts) us a b h = absurd (omega (arith, a))
filled_parts leaf (bind w r) xs ys [] us a b h = cc
filled_parts leaf (bind w r) xs ys (t ∷ ts) us a b h = absurd (omega (arith, a))
filled_parts (own q) leaf xs ys ts [] a b h = cc
filled_parts (own q) leaf xs ys ts (s ∷ us) a b h = absurd (omega (arith, b))
filled_parts (own q) (own r) xs ys ts us a b h =
    let p : filled q (drop 1 xs) ts ≡ filled r (drop 1 ys) us = cc in
    let x : slice_index xs 0 ≡ slice_index ys 0 = cc in
    let i = filled_parts q r (drop 1 xs) (drop 1 ys) ts us a b p in
    record { tree = ap own i.tree; names = λ k. x k ∷ i.names k; row = i.row }
filled_parts (own q) (child j ks r) xs ys ts [] a b h = absurd (omega (arith, b))
filled_parts (own q) (child j ks r) xs ys ts (s ∷ us) a b h = cc
filled_parts (own q) (bind w r) xs ys ts us a b h = cc
filled_parts (child i ks q) leaf xs ys [] us a b h = absurd (omega (arith, a))
filled_parts (child i ks q) leaf xs ys (t ∷ ts) [] a b h = cc
filled_parts (child i ks q) leaf xs ys (t ∷ ts) (s ∷ us) a b h = absurd (omega (arith, b))
filled_parts (child i ks q) (own r) xs ys [] us a b h = absurd (omega (arith, a))
filled_parts (child i ks q) (own r) xs ys (t ∷ ts) us a b h = cc
filled_parts (child i ks q) (child j ls r) xs ys [] us a b h = absurd (omega (arith, a))
filled_parts (child i ks q) (child j ls r) xs ys (t ∷ ts) [] a b h = absurd (omega (arith, b))
filled_parts (child i ks q) (child j ls r) xs ys (t ∷ ts) (s ∷ us) a b h =
    let op : t.op ≡ s.op = cc in
    let payloads : t.payloads ≡ s.payloads = cc in
    let args : t.args ≡ s.args = cc in
    let p : filled q (drop (length ks) xs) ts ≡ filled r (drop (length ls) ys) us = cc in
    let m = filled_parts q r (drop (length ks) xs) (drop (length ls) ys) ts us (suc_inj a) (suc_inj b) p in
    record { tree = ap (child 0 (0 ∷ [])) m.tree; names = ap (λ ns. 0 ∷ ns) m.names; row = λ k. term_same t s op payloads args k ∷ m.row k }
filled_parts (child i ks q) (bind w r) xs ys [] us a b h = absurd (omega (arith, a))
filled_parts (child i ks q) (bind w r) xs ys (t ∷ ts) us a b h = cc
filled_parts (bind v q) leaf xs ys ts [] a b h = cc
filled_parts (bind v q) leaf xs ys ts (s ∷ us) a b h = absurd (omega (arith, b))
filled_parts (bind v q) (own r) xs ys ts us a b h = cc
filled_parts (bind v q) (child j ks r) xs ys ts [] a b h = absurd (omega (arith, b))
filled_parts (bind v q) (child j ks r) xs ys ts (s ∷ us) a b h = cc
filled_parts (bind v q) (bind w r) xs ys ts us a b h =
    let k = length (children v) in
    let l = length (children w) in
    let m = length (scopes v) in
    let n = length (scopes w) in
    let x : slice_index xs 0 ≡ slice_index ys 0 = cc in
    let pi : filled v (take m (drop 1 xs)) (take k ts) ≡ filled w (take n (drop 1 ys)) (take l us) = cc in
    let pr : filled q (drop m (drop 1 xs)) (drop k ts) ≡ filled r (drop n (drop 1 ys)) (drop l us) = cc in
    let inner = filled_parts v w (take m (drop 1 xs)) (take n (drop 1 ys)) (take k ts) (take l us) (omega (arith, a, length-take k ts, length-append (children v) (children q))) (omega (arith, b, length-take l us, length-append (children w) (children r))) pi in
    let rest = filled_parts q r (drop m (drop 1 xs)) (drop n (drop 1 ys)) (drop k ts) (drop l us) (omega (arith, a, length-drop k ts, length-append (children v) (children q))) (omega (arith, b, length-drop l us, length-append (children w) (children r))) pr in
    record {
      tree = λ i. bind (inner.tree i) (rest.tree i);
      names = λ i. x i ∷ inner.names i ++ rest.names i;
      row = sym (take-append-drop k ts) ∙ ((λ i. inner.row i ++ rest.row i) ∙ take-append-drop l us);
    }

-- a node with its children is one, but for what stands under the node
pub record SameNode (f g : Form) (ts us : List Term) : Type 0 where
  pub node : outlined_form 0 f ≡ outlined_form 0 g
  pub count : length ts ≡ length (children f.tree)
  pub row : ts ≡ us

pub same_node : (f g : Form) (ts us : List Term) → term_of f ts ≡ term_of g us → IsWhole (term_of f ts).args → SameNode f g ts us
same_node f g ts us h w =
    let args = ap (λ (t : Term). t.args) h in
    let parts = filled_parts f.tree g.tree f.names g.names ts us (whole_count f.tree f.names ts w) (whole_count g.tree g.names us (subst IsWhole args w)) args in
    let operator : f.operator ≡ g.operator = suc_inj (ap (λ (t : Term). t.op) h) in
    let payloads : f.payloads ≡ g.payloads = ap (λ (t : Term). t.payloads) h in
    record {
      node = λ i. record { operator = operator i; payloads = payloads i; tree = parts.tree i; names = parts.names i };
      count = whole_count f.tree f.names ts w;
      row = parts.row;
    }

-- nodes with one outline have one term over the same children, and as many children
pub term_of-outline : (f g : Form) (ts : List Term) → outlined_form 0 f ≡ outlined_form 0 g → term_of f ts ≡ term_of g ts
term_of-outline f g ts h =
    let args = sym (filled-outlined 0 f.tree f.names ts) ∙ (ap (λ (o : Form). filled o.tree o.names ts) h ∙ filled-outlined 0 g.tree g.names ts) in
    λ i. record { op = suc (ap (λ (o : Form). o.operator) h i); payloads = ap (λ (o : Form). o.payloads) h i; args = args i }

pub length_children-outline : (f g : Form) → outlined_form 0 f ≡ outlined_form 0 g → length (children f.tree) ≡ length (children g.tree)
length_children-outline f g h =
    sym (length_children-outlined f.tree) ∙ (ap (λ (o : Form). length (children o.tree)) h ∙ length_children-outlined g.tree)
