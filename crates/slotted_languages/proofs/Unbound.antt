-- Nodes that bind nothing: names are put in place by place.
use Rattle.std.proofs.Common.{◌≡◌, ◌∙◌, ℕ, suc, ◌<◌, List, [], ◌∷◌, ◌++◌, length, map, take, drop, ap, refl, sym, arith, inl, inr, slice_index}
use Rattle.std.specs.Prelude.{Option, Some, None, IsSome, slice_index_or, unwrap_or}
use Rattle.std.proofs.lemmas.List.{get_or-map, length-map, take-map, drop-map}
use Rattle.std.proofs.lemmas.List.Elements.{All-contains}
use Rattle.slotted_lists.proofs.Options.{some-or_none as told}
use Rattle.slotted_theory.specs.FiniteMaps.{filled}
use Rattle.slotted_theory.specs.Nameless.{place, sub, nameless_args, moved}
use Rattle.slotted_theory.proofs.FreeNames.{moved-agrees}
use Rattle.slotted_theory.proofs.Laws.{moved-nameless_args}
use Rattle.slotted_slots.specs.Maps.{KnowsAll, is_among, value_of, values}
use Rattle.slotted_slots.specs.Table.{Table}
use Rattle.slotted_slots.proofs.MapLaws.{is_among-value_of}
use Rattle.slotted_nodes.specs.Form.{Form, Tree, leaf, own, scopes, end_at, scope_end_of}
use Rattle.slotted_nodes.specs.Form.{child as id, bind as binder}
use Rattle.slotted_languages.specs.Children.{HasNoBinder}
use Rattle.slotted_languages.specs.Fresh.{replaced, with_replaced}
use Rattle.slotted_languages.specs.NewNames.{IsRenamedBy, PutsIn}
use Rattle.slotted_languages.specs.NodeTerm.{own_names, node_args, nameless_node, free_names_of}
use Rattle.slotted_languages.specs.Shape.{Fits}
use Rattle.slotted_languages.proofs.Fills.{filled_at}
use Rattle.slotted_languages.proofs.NodeTerms.{own_fits, child_rest_fits}

-- a tree without binders
abbrev IsUnbound : Tree → Type 0
IsUnbound leaf = Unit {0}
IsUnbound (own r) = IsUnbound r
IsUnbound (id i ks r) = IsUnbound r
IsUnbound (binder u r) = ⊥

abbrev HasNoScope : List (Option ℕ) → Type 0
HasNoScope s = (j : ℕ) → j < length s → ¬ IsSome (scope_end_of s j)

some-at : (i j : ℕ) (o : Option ℕ) → IsSome (end_at i o) → IsSome (end_at j o)
some-at i j None p = p
some-at i j (Some n) p = p

later : (o : Option ℕ) (s : List (Option ℕ)) → HasNoScope (o ∷ s) → HasNoScope s
later o s none j lt p = none (suc j) (omega (arith, lt)) (some-at j (suc j) (slice_index_or s j None) p)

past : (s r : List (Option ℕ)) → HasNoScope (s ++ r) → HasNoScope r
past [] r none = none
past (o ∷ s) r none = past s r (later o (s ++ r) none)

unbound : (t : Tree) → HasNoScope (scopes t) → IsUnbound t
unbound leaf none = tt
unbound (own r) none = unbound r (later None (scopes r) none)
unbound (id i ks r) none = unbound r (past (map (λ _. None) ks) (scopes r) none)
unbound (binder u r) none = none 0 (omega arith) refl

own-moved : (g : ℕ → ℕ) (xs : List ℕ) → nameless_args (λ y. y) (own_names (map g xs)) ≡ nameless_args g (own_names xs)
own-moved g [] = refl
own-moved g (x ∷ xs) = ap (place (g x)) (own-moved g xs)

-- names that are put in at the places of a tree without binders
args-moved : (g : ℕ → ℕ) (t : Tree) (xs : List ℕ) → IsUnbound t → length xs ≡ length (scopes t) → nameless_args (λ y. y) (node_args t (map g xs)) ≡ nameless_args g (node_args t xs)
args-moved g leaf xs u e = refl
args-moved g (own r) [] u e = absurd (omega (arith, e))
args-moved g (own r) (x ∷ xs) u e = ap (place (g x)) (args-moved g r xs u (own_fits r (x ∷ xs) e))
args-moved g (id i ks r) xs u e =
    let at : nameless_args (λ y. y) (own_names (take (length ks) (map g xs))) ≡ nameless_args g (own_names (take (length ks) xs)) =
    ap (λ ys. nameless_args (λ y. y) (own_names ys)) (take-map g (length ks) xs) ∙ own-moved g (take (length ks) xs) in
    let rest : nameless_args (λ y. y) (node_args r (drop (length ks) (map g xs))) ≡ nameless_args g (node_args r (drop (length ks) xs)) =
    ap (λ ys. nameless_args (λ y. y) (node_args r ys)) (drop-map g (length ks) xs) ∙ args-moved g r (drop (length ks) xs) u (child_rest_fits i ks r xs e) in
    λ j. sub 0 ((i ∷ ks) ∷ []) (at j) (rest j)
args-moved g (binder u r) xs never e = absurd never

-- a map that knows the names gives them the names that filling gives
agreed : (m : List (ℕ × ℕ)) (x : ℕ) → IsSome (value_of m x) → replaced m x ≡ filled m x
agreed m x some = elim (told (value_of m x)) [
  | inl z ↦ ap (λ o. unwrap_or o x) z.1 ∙ sym (filled_at m x z.0 z.1)
  | inr none ↦ absurd (no_value (value_of m x) none some)
]
  where
    no_value : (o : Option ℕ) → o ≡ None → ¬ IsSome o
    no_value o e some = cc

module _ (m : List (ℕ × ℕ)) (f : Form) (fits : Fits f) (none : HasNoBinder f) where
  unbound-tree : IsUnbound f.tree
  unbound-tree = unbound f.tree (λ j lt. none j (omega (arith, lt, fits)))

  pub replaced-renamed : KnowsAll m (free_names_of f) → IsRenamedBy m f (with_replaced m f)
  replaced-renamed knows =
      let put : nameless_node (with_replaced m f) ≡ moved (replaced m) (nameless_node f) =
      λ i. record { op = suc f.operator; payloads = f.payloads; args = (args-moved (replaced m) f.tree f.names unbound-tree fits ∙ sym (moved-nameless_args (replaced m) (λ y. y) (node_args f.tree f.names))) i } in
      put ∙ moved-agrees (replaced m) (filled m) (nameless_node f) (λ x has. agreed m x (All-contains (λ y. IsSome (value_of m y)) (free_names_of f) x knows has))

-- what is put in is a value of the map
pub replaced-put : (u : Table) (m : List (ℕ × ℕ)) (f : Form) → PutsIn u (values m) f (with_replaced m f)
replaced-put u m f j lt =
    let x = slice_index f.names j in
    let at : slice_index (map (replaced m) f.names) j ≡ replaced m x = get_or-map (replaced m) f.names j _ _ (omega (arith, lt, length-map f.names (replaced m))) in
    elim (told (value_of m x)) [
      | inl z ↦ inr (inr (ap (λ y. is_among y (values m)) (at ∙ ap (λ o. unwrap_or o x) z.1) ∙ is_among-value_of m x z.0 z.1))
      | inr none ↦ inl (at ∙ ap (λ o. unwrap_or o x) none)
    ]
