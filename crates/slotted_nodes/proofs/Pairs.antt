-- Two fields of one node, f and g, as one form.
use Rattle.std.proofs.Common.{◌≡◌, ℕ, ◌+◌, ◌-◌, ◌<◌, ◌≤◌, List, [], ◌++◌, length, take, drop, Option, Some, None, refl, slice_index_or, ap, ◌∙◌, sym, append_assoc, arith, length-append, length-drop, add_assoc}
use Rattle.std.proofs.lemmas.List.{get_or_append_left, get_or-append_right, set-append_left, set-append_right, take-append-le, drop-append-le}
use Rattle.std.proofs.Math.Seq.{take-append-add, drop-append-add}
use Rattle.slotted_nodes.specs.Equal.{form_ext}
use Rattle.slotted_nodes.specs.Form.{Form, IsPlace, counted, counted_end, join, scopes, children, child_place, child_id, child_keys, child_names, width, with_name, with_child, end_at, scope_end_of, join_form}
use Rattle.slotted_nodes.specs.Joined.{scopes-join, children-join, child_place-join_left, child_place-join_right, with_child_in-join_left, with_child_in-join_right, child_fits}

-- how many places the first field has, where a place of both is none of them
pub first_places : (f g : Form) (n i : ℕ) → n ≡ counted (length f.names) → n ≤ i → IsPlace (join_form f g) i → n ≡ length f.names
first_places f g n i e past within = omega (arith, e, past, within, length-append f.names g.names)

-- a child that is not of the first field is one of the second
pub second_child : (f g : Form) (n k : ℕ) → n ≡ length (children f.tree) → n ≤ k → k < length (children (join f.tree g.tree)) → k - n < length (children g.tree)
second_child f g n k e past within =
    omega (arith, e, past, within, length-append (children f.tree) (children g.tree), ap length (children-join f.tree g.tree))

-- where a scope ends after n more places, as calls answer it
abbrev pub end_plus : ℕ → Option ℕ → Option ℕ
end_plus n None = None
end_plus n (Some e) = Some (counted (e + n))

pub end_at_plus : (i n : ℕ) (o : Option ℕ) → n ≤ i → counted_end (end_at i o) ≡ end_plus n (counted_end (end_at (i - n) o))
end_at_plus i n None h = refl
end_at_plus i n (Some k) h = ap Some (omega (arith, h))

module _ (f g : Form) (fits : length f.names ≡ length (scopes f.tree)) where
  pub scope_end_left : (i : ℕ) → i < length f.names → scope_end_of (scopes (join f.tree g.tree)) i ≡ scope_end_of (scopes f.tree) i
  scope_end_left i h = rw (scopes-join f.tree g.tree) (ap (end_at i) (get_or_append_left (scopes f.tree) (scopes g.tree) None i (omega (arith, h, fits))))

  pub scope_end_right : (n i : ℕ) (end : Option ℕ) → n ≡ length f.names → n ≤ i → end ≡ counted_end (scope_end_of (scopes g.tree) (i - n)) → end_plus n end ≡ counted_end (scope_end_of (scopes (join f.tree g.tree)) i)
  scope_end_right n i end e h o =
      rw (o, scopes-join f.tree g.tree, get_or-append_right (scopes f.tree) (scopes g.tree) n i None (sym fits ∙ sym e) h)
      (sym (end_at_plus i n (slice_index_or (scopes g.tree) (i - n) None) h))

  pub names_left : (i x : ℕ) → i < length f.names → join_form (with_name f i x) g ≡ with_name (join_form f g) i x
  names_left i x h = ap (λ ns. let r : Form = record (join_form f g) { names = ns } in r) (sym (set-append_left f.names g.names i x h))

  pub names_right : (i x : ℕ) → length f.names ≤ i → join_form f (with_name g (i - length f.names) x) ≡ with_name (join_form f g) i x
  names_right i x h = ap (λ ns. let r : Form = record (join_form f g) { names = ns } in r) (sym (set-append_right f.names g.names (length f.names) i x refl h))

  pub child_left : (k : ℕ) → k < length (children f.tree) → slice_index_or (children (join f.tree g.tree)) k (0, []) ≡ slice_index_or (children f.tree) k (0, [])
  child_left k h = rw (children-join f.tree g.tree) (get_or_append_left (children f.tree) (children g.tree) (0, []) k h)

  pub child_right : (k : ℕ) → length (children f.tree) ≤ k → slice_index_or (children (join f.tree g.tree)) k (0, []) ≡ slice_index_or (children g.tree) (k - length (children f.tree)) (0, [])
  child_right k h = rw (children-join f.tree g.tree) (get_or-append_right (children f.tree) (children g.tree) (length (children f.tree)) k (0, []) refl h)

  pub child_id_left : (k : ℕ) → k < length (children f.tree) → child_id (join_form f g) k ≡ child_id f k
  child_id_left k h = ap (λ (c : ℕ × List ℕ). c.0) (child_left k h)

  pub child_id_right : (k : ℕ) → length (children f.tree) ≤ k → child_id (join_form f g) k ≡ child_id g (k - length (children f.tree))
  child_id_right k h = ap (λ (c : ℕ × List ℕ). c.0) (child_right k h)

  pub child_keys_left : (k : ℕ) → k < length (children f.tree) → child_keys (join_form f g) k ≡ child_keys f k
  child_keys_left k h = ap (λ (c : ℕ × List ℕ). c.1) (child_left k h)

  pub child_keys_right : (k : ℕ) → length (children f.tree) ≤ k → child_keys (join_form f g) k ≡ child_keys g (k - length (children f.tree))
  child_keys_right k h = ap (λ (c : ℕ × List ℕ). c.1) (child_right k h)

  pub child_names_left : (k : ℕ) → k < length (children f.tree) → child_names (join_form f g) k ≡ child_names f k
  child_names_left k h =
      rw (child_left k h, child_place-join_left f.tree g.tree k h)
      (rw (drop-append-le (child_place f.tree k) f.names g.names (omega (arith, fits, child_fits f.tree k h)))
      (take-append-le (width f.tree k) (drop (child_place f.tree k) f.names) g.names
      (omega (arith, fits, child_fits f.tree k h, length-drop (child_place f.tree k) f.names))))

  pub child_names_right : (k : ℕ) → length (children f.tree) ≤ k → child_names (join_form f g) k ≡ child_names g (k - length (children f.tree))
  child_names_right k h =
      rw (child_right k h, child_place-join_right f.tree g.tree k h, ← fits)
      (ap (take (width g.tree (k - length (children f.tree)))) (drop-append-add f.names g.names (child_place g.tree (k - length (children f.tree)))))

  pub with_child_left : (k j : ℕ) (ls xs : List ℕ) → k < length (children f.tree) → join_form (with_child f k j ls xs) g ≡ with_child (join_form f g) k j ls xs
  with_child_left k j ls xs h =
      let p = child_place f.tree k in
      let w = width f.tree k in
      form_ext _ _ refl refl (sym (with_child_in-join_left f.tree g.tree k j ls h))
      (rw (child_place-join_left f.tree g.tree k h, child_left k h)
      (rw (
        take-append-le p f.names g.names (omega (arith, fits, child_fits f.tree k h)),
        drop-append-le (p + w) f.names g.names (omega (arith, fits, child_fits f.tree k h)),
      )
      (append_assoc (take p f.names ++ xs) (drop (p + w) f.names) g.names)))

  pub with_child_right : (k j : ℕ) (ls xs : List ℕ) → length (children f.tree) ≤ k → join_form f (with_child g (k - length (children f.tree)) j ls xs) ≡ with_child (join_form f g) k j ls xs
  with_child_right k j ls xs h =
      let n = k - length (children f.tree) in
      let p = child_place g.tree n in
      let w = width g.tree n in
      form_ext _ _ refl refl (sym (with_child_in-join_right f.tree g.tree k j ls h))
      (rw (child_place-join_right f.tree g.tree k h, child_right k h, ← fits, add_assoc (length f.names) p w)
      (rw (take-append-add f.names g.names p, drop-append-add f.names g.names (p + w))
      (simp append_assoc refl)))

-- two fields have the children of both
pub length_children-join : (f g : Form) → length (children (join f.tree g.tree)) ≡ length (children f.tree) + length (children g.tree)
length_children-join f g = ap length (children-join f.tree g.tree) ∙ length-append (children f.tree) (children g.tree)
