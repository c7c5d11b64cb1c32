-- The filed nodes of a class in a set: one for each source, no two of one key.
use Rattle.std.proofs.Common.{◌≡◌, ◌≤◌, ◌<◌, ◌+◌, ◌∙◌, ℕ, zero, suc, List, [], ◌∷◌, ◌++◌, Some, false, get_or, take, length, map, ap, refl, sym, subst, inl, inr, arith}
use Rattle.std.specs.Prelude.{◌↔◌, All, Bool, Contains, IsTrue}
use Rattle.std.specs.List.{list_any, range_with_len}
use Rattle.std.specs.List.Sorted.{IsPermutation}
use Rattle.std.proofs.lemmas.Bool.{cases_Bool}
use Rattle.std.proofs.lemmas.List.{map-append, take_more}
use Rattle.std.proofs.lemmas.List.Elements.{All-cons, All-contains, All-take}
use Rattle.std.proofs.lemmas.List.Folds.{Any-from_list_any}
use Rattle.std.proofs.lemmas.List.Sorted.{All-permutation, Contains-permutation, IsPermutation-map, IsPermutation-push_more, IsPermutation-sym}
use Rattle.slotted_lists.proofs.Members.{Contains-In, In, In-Contains, In-map, In-of_map}
use Rattle.slotted_nodes.specs.Form.{Form}
use Rattle.slotted_languages.specs.Shape.{shape}
use Rattle.slotted_model.specs.Applied.{Applied}
use Rattle.slotted_model.specs.Correspondence.{AllDifferent}
use Rattle.slotted_model.proofs.Correspondences.Listing.{different-filter}
use Rattle.slotted_classes.specs.Kept.{Kept}
use Rattle.slotted_classes.proofs.NameMaps.{In-at}
use Rattle.slotted_hashcons.specs.Filed.{HasKey, HasKeysOnce}
use Rattle.slotted_hashcons.specs.FiledRows.{IsFiled, Rows, row_of_entry}
use Rattle.slotted_hashcons.proofs.FiledRows.{row-filed}
use Rattle.slotted_hashcons.specs.WellFiled.{IsWellFiled}
use Rattle.slotted_lookup.specs.Reports.{class_sources, is_source}
use Rattle.slotted_reports.specs.Nodes.{AreClassNodes, IsClassNode, key_at, key_in, key_of}

-- the sources of a class are different

range-in : (s n x : ℕ) → In x (range_with_len s n) → s ≤ x
range-in s zero x h = absurd h
range-in s (suc n) x (inl e) = omega (arith, e)
range-in s (suc n) x (inr h) = omega (arith, range-in (s + 1) n x h)

range-different : (s n : ℕ) → AllDifferent (range_with_len s n)
range-different s zero = tt
range-different s (suc n) = (λ c. absurd (omega (arith, range-in (s + 1) n s (In-Contains (range_with_len (s + 1) n) s c))), range-different (s + 1) n)

pub sources-different : (k : Kept) (r : Rows) (c : ℕ) → AllDifferent (class_sources k r c)
sources-different k r c = different-filter (is_source k r c) (range_with_len 0 (length r.filed)) (range-different 0 (length r.filed))

-- so none stands among those before it
different-before : (xs : List ℕ) (i d : ℕ) → i < length xs → AllDifferent xs → ¬ In (get_or xs i d) (take i xs)
different-before [] i d l h e = absurd (omega (arith, l))
different-before (x ∷ xs) zero d l h e = absurd e
different-before (x ∷ xs) (suc i) d l h (inl e) = h.0 (subst (Contains xs) e (Contains-In xs (get_or xs i d) (In-at xs i d (omega (arith, l)))))
different-before (x ∷ xs) (suc i) d l h (inr e) = different-before xs i d (omega (arith, l)) h.1 e

-- no key is filed of two classes
keys-once : (k : Kept) (r : Rows) → IsWellFiled k r → HasKeysOnce r.filed
keys-once k r well i j f h g = well.sane.filed.shapes (row_of_entry (f, (i, h.0))) (row_of_entry (f, (j, g.0))) (row-filed r.filed i f h.0 h.1) (row-filed r.filed j f g.0 g.1) refl

module _ (k : Kept) (r : Rows) (well : IsWellFiled k r) where
  -- the source of a key
  key-source : (os : List ℕ) (o : ℕ) (f : Form) → All (IsFiled r.filed) os → HasKey r.filed o f → In f (map (key_at r.filed) os) → In o os
  key-source os o f filed has h =
      let p = In-of_map (key_at r.filed) os f h in
      let at = All-contains (IsFiled r.filed) os p.0 filed (Contains-In os p.0 p.1) in
      let same : at.0.0 ≡ f = sym (ap key_of at.1) ∙ sym p.2 in
      let e = keys-once k r well o p.0 f has (at.0.1, at.1 ∙ ap (λ x. Some (x, at.0.1)) same) in
      subst (λ z. In z os) (sym e) p.1

  -- where equal nodes have equal forms, a node of another source is equal to none
  module _ {L : Type 0} (form : L → Form) (eq : L → L → Bool) (same : (a b : L) → IsTrue (eq a b) ↔ form a ≡ form b) where
    new-node : (os : List ℕ) (ns : List L) (n : L) (o : ℕ) → All (IsFiled r.filed) os → IsPermutation (map (key_at r.filed) os) (map (key_in form) ns) →
        ¬ In o os → HasKey r.filed o (shape (form n)).0 → list_any (eq n) ns ≡ false
    new-node os ns n o filed keys out has = elim (cases_Bool (list_any (eq n) ns)) [
      | inl y ↦
          let p = Any-from_list_any (eq n) ns y in
          let alike : form n ≡ form p.1 = (same n p.1).0 p.4 in
          let among : In (key_in form p.1) (map (key_in form) ns) = In-map (key_in form) ns p.1 (In-Contains ns p.1 (p.0, p.2, p.3)) in
          let before : Contains (map (key_at r.filed) os) (key_in form p.1) =
          Contains-permutation (map (key_in form) ns) (map (key_at r.filed) os) (key_in form p.1) (IsPermutation-sym _ _ keys) (Contains-In (map (key_in form) ns) (key_in form p.1) among) in
          let key : Contains (map (key_at r.filed) os) (shape (form n)).0 = subst (λ x. Contains (map (key_at r.filed) os) (shape x).0) (sym alike) before in
          absurd (out (key-source os o (shape (form n)).0 filed has (In-Contains (map (key_at r.filed) os) (shape (form n)).0 key)))
      | inr e ↦ e
    ]

    -- one source more, and its node
    pub node-put : (a : Applied) (xs : List ℕ) (i : ℕ) (ns ms : List L) (n : L) → i < length xs → HasKey r.filed (get_or xs i 0) (shape (form n)).0 → IsClassNode k r a (form n) →
        AreClassNodes form k r a (take i xs) ns → IsPermutation (n ∷ ns) ms → AreClassNodes form k r a (take (i + 1) xs) ms
    node-put a xs i ns ms n lt key is so_far puts =
        let v = r.filed in
        let more : map (key_at v) (take (i + 1) xs) ≡ map (key_at v) (take i xs) ++ key_at v (get_or xs i 0) ∷ [] =
        ap (map (key_at v)) (take_more xs i 0 lt) ∙ map-append (key_at v) (take i xs) (get_or xs i 0 ∷ []) in
        let here : key_at v (get_or xs i 0) ≡ key_in form n = ap key_of key.1 in
        let keys = IsPermutation-push_more (map (key_at v) (take i xs)) (map (key_in form) ns) (map (key_in form) ms) (key_in form n) so_far.keys (IsPermutation-map (key_in form) (n ∷ ns) ms puts) in
        record {
          keys = subst (λ zs. IsPermutation zs (map (key_in form) ms)) (sym (more ∙ ap (λ y. map (key_at v) (take i xs) ++ y ∷ []) here)) keys;
          each = All-permutation (λ m. IsClassNode k r a (form m)) (n ∷ ns) ms puts (All-cons (λ m. IsClassNode k r a (form m)) n ns is so_far.each);
        }

    -- the node of the next source is not there yet
    pub node-absent : (a : Applied) (xs : List ℕ) (i : ℕ) (ns : List L) (n : L) → i < length xs → AllDifferent xs → All (IsFiled r.filed) xs → HasKey r.filed (get_or xs i 0) (shape (form n)).0 →
        AreClassNodes form k r a (take i xs) ns → list_any (eq n) ns ≡ false
    node-absent a xs i ns n lt different filed key so_far = new-node (take i xs) ns n (get_or xs i 0) (All-take (IsFiled r.filed) i xs filed) so_far.keys (different-before xs i 0 lt different) key
