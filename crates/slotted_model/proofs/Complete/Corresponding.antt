-- Graphs of the same terms agree: ids that correspond find alike alike and have the same names, so live classes correspond one to one.
use Rattle.std.proofs.Common.{◌≡◌, ℕ, ◌<◌, List, [], ◌++◌, Some, false, length, sym, ◌∙◌, ap, refl, subst, inl, inr, arith}
use Rattle.std.specs.Prelude.{Contains}
use Rattle.std.proofs.lemmas.Bool.{cases_Bool, false≢true}
use Rattle.std.proofs.lemmas.List.Elements.{Contains-append_left, Contains-append_right}
use Rattle.slotted_lists.proofs.Contained.{above, Contains-below}
use Rattle.slotted_lists.proofs.Members.{In, Contains-In}
use Rattle.slotted_theory.specs.Nameless.{DTerm}
use Rattle.slotted_theory.specs.Renaming.{Bijection, IsInjective, swapped}
use Rattle.slotted_theory.specs.Derives.{Equal, turned, joined, moving}
use Rattle.slotted_theory.specs.FiniteMaps.{with_values}
use Rattle.slotted_theory.proofs.Bijections.{to-injective, swap, swapped-first, swapped-other}
use Rattle.slotted_theory.proofs.Equals.{Equal-through}
use Rattle.slotted_model.specs.Applied.{Applied, values, renamed_id}
use Rattle.slotted_model.specs.Classes.{term_of, IsFull}
use Rattle.slotted_model.specs.Correspondence.{has_slot}
use Rattle.slotted_model.specs.Filling.{IsFilling}
use Rattle.slotted_model.specs.Find.{Entry, IsLive, find_class, find_map, used_slots, find, Linked}
use Rattle.slotted_model.specs.ProofList.{asserted}
use Rattle.slotted_model.specs.Sound.{Sound}
use Rattle.slotted_model.specs.State.{State, look_up_node, look_up_tree}
use Rattle.slotted_model.specs.Rest.{IsValidIn, AtRest}
use Rattle.slotted_model.specs.Affected.{HasNoOpenSymmetries, AreAlikeOrAffected}
use Rattle.slotted_model.specs.Trees.{IsTree}
use Rattle.slotted_model.specs.Agreement.{Knows, Correspond, HasTermsOf}
use Rattle.slotted_model.proofs.Represented.Full.{full-renamed, term_of-renamed}
use Rattle.slotted_model.proofs.Represented.Fillings.{a_filling}
use Rattle.slotted_model.proofs.Complete.Agreement.{unmoved-names}
use Rattle.slotted_model.proofs.Complete.AtRest.{unopened-closed, none-affected, rest-look_up, rest-full_alike, rest-trees, rest-represented}
use Rattle.slotted_model.proofs.Complete.CanonicalValues.{full-alike, plainly-alike}
use Rattle.slotted_model.proofs.Finds.FindProofs.{full-found_alike, exact-holds}
use Rattle.slotted_model.proofs.Finds.Finding.{leads, find_class-live, found-in_range, found-live}
use Rattle.slotted_model.proofs.Complete.LookUpsAreEqual.{tree-equal, filled-equal, found-equal as tree-of}
use Rattle.slotted_model.proofs.Complete.Meeting.{Meeting, meeting}
use Rattle.slotted_model.proofs.Finds.NormalIds.{found-renamed, found-name, full-is_valid}
use Rattle.slotted_model.proofs.Represented.OtherFillings.{with_values-same}
use Rattle.slotted_model.proofs.Represented.RenamedIds.{full-bijection}
use Rattle.slotted_model.proofs.Rebuilding.RowNodes.{source-id}
use Rattle.slotted_model.proofs.Complete.Spreading.{has_slot-in, in-has_slot}
use Rattle.slotted_model.proofs.Correspondences.Pairs.{Contains-value, Contains-of_value}
use Rattle.slotted_model.proofs.Finds.Steps.{Equal-between}

-- ids that find alike stand for terms that are equal by what was asserted
found-equal : (g : State) → AtRest g → (a b : Applied) → IsFull g.nodes a → IsFull g.nodes b → find g.found a ≡ find g.found b → Equal (asserted g.nodes g.proofs) (term_of g.nodes a) (term_of g.nodes b)
found-equal g rest a b fa fb e =
    let s : Sound g.nodes g.found g.proofs = rest.sane.sound in
    full-found_alike (asserted g.nodes g.proofs) g.nodes g.found s.linked (exact-holds g.nodes s.canonical g.found g.proofs s.proved s.exact) a b fa fb e

-- where no symmetry is open, equal terms are found alike
equal-found : (g : State) → AtRest g → HasNoOpenSymmetries g → (a b : Applied) → IsFull g.nodes a → IsFull g.nodes b → Equal (asserted g.nodes g.proofs) (term_of g.nodes a) (term_of g.nodes b) → find g.found a ≡ find g.found b
equal-found g rest none a b fa fb h =
    plainly-alike g.found a b (full-alike g.nodes rest.sane.sound.canonical g.found (asserted g.nodes g.proofs) (look_up_node g) (λ c. false) (unopened-closed g rest none) a b fa fb h)

-- ids that correspond do so the other way round, and under other names
pub correspond-back : (g h : State) → Knows g h → (a b : Applied) → Correspond g h a b → Correspond h g b a
correspond-back g h known a b c = record { left_full = c.right_full; right_full = c.left_full; equal = turned (Equal-through known c.equal) }

correspond-renamed : (g h : State) → AtRest g → AtRest h → (f : ℕ → ℕ) → IsInjective f → (a b : Applied) → Correspond g h a b → Correspond g h (renamed_id f a) (renamed_id f b)
correspond-renamed g h rest_g rest_h f inj a b c = record {
  left_full = full-renamed g.nodes a c.left_full f (λ x y i j. inj x y);
  right_full = full-renamed h.nodes b c.right_full f (λ x y i j. inj x y);
  equal = Equal-between (term_of-renamed g.nodes rest_g.sane.sound.canonical a c.left_full f) (term_of-renamed h.nodes rest_h.sane.sound.canonical b c.right_full f) (moving f inj c.equal);
}

-- a name that an id finds is one of its own
name-of : (found : List Entry) (a : Applied) (x : ℕ) → In x (values (find found a).1) → Contains (values a.1) x
name-of found a x h =
    let r = Contains-of_value (find found a).1 x (Contains-In (values (find found a).1) x h) in
    let n : (t : ℕ) × Contains (find_map found a.0) (r.0, t) × Contains a.1 (t, x) = found-name found a r.0 x r.1 in
    Contains-value a.1 n.0 x n.2

-- an id finds no name that another does not, if each renaming that changes nothing of what the other finds changes nothing of what it finds
fewer-names : (one other : List Entry) (a b : Applied) → ((f : ℕ → ℕ) → IsInjective f → find other (renamed_id f b) ≡ find other b → find one (renamed_id f a) ≡ find one a) →
    (x : ℕ) → In x (values (find one a).1) → In x (values (find other b).1)
fewer-names one other a b more x h = elim (cases_Bool (has_slot (values (find other b).1) x)) [
  | inl t ↦ has_slot-in (values (find other b).1) x t
  | inr f ↦
      let both : List ℕ = values a.1 ++ values b.1 in
      let z : ℕ = above both in
      let fresh : ¬ Contains both z = λ c. let l : z < z = Contains-below both z c in omega arith in
      let s : ℕ → ℕ = swapped x z in
      let absent : ¬ In x (values (find other b).1) = λ k. false≢true (sym f ∙ in-has_slot (values (find other b).1) x k) in
      let stays : (v : ℕ) → In v (values (find other b).1) → s v ≡ v = λ v k.
      swapped-other x z v (λ e. absent (subst (λ y. In y (values (find other b).1)) e k))
      (λ e. fresh (Contains-append_right (values a.1) (values b.1) z (subst (Contains (values b.1)) e (name-of other b v k)))) in
      let there : find other (renamed_id s b) ≡ find other b =
      found-renamed other s b ∙ ap (λ (m : List (ℕ × ℕ)). ((find other b).0, m)) (with_values-same s (find other b).1 stays) in
      let here : with_values s (find one a).1 ≡ (find one a).1 =
      ap (λ (y : Applied). y.1) (sym (found-renamed one s a) ∙ more s (to-injective (swap x z)) there) in
      let same : z ≡ x = sym (swapped-first x z x refl) ∙ unmoved-names s (find one a).1 here x h in
      absurd (fresh (subst (Contains both) (sym same) (Contains-append_left (values a.1) (values b.1) x (name-of one a x h))))
]

-- what finds alike in g is equal in h, and so found alike or affected there
pub alike-or_affected : (g h : State) → AtRest g → AtRest h → Knows h g → (a b x y : Applied) → Correspond g h a b → Correspond g h x y → find g.found a ≡ find g.found x → AreAlikeOrAffected h b y
alike-or_affected g h rest_g rest_h known a b x y c d e =
    rest-full_alike h rest_h b y c.right_full d.right_full (joined (turned c.equal) (joined (Equal-through known (found-equal g rest_g a x c.left_full d.left_full e)) d.equal))

-- each full id of g corresponds to one of h, if an id of each live class does
pub each-corresponds : (g h : State) → AtRest g → AtRest h → Knows h g → HasTermsOf h g → (a : Applied) → IsFull g.nodes a → (b : Applied) × Correspond g h a b
each-corresponds g h rest_g rest_h known has a full =
    let linked : Linked g.nodes g.found = rest_g.sane.sound.linked in
    let lead = leads g.nodes g.found linked in
    let c : ℕ = find_class g.found a.0 in
    let in_range : c < length g.nodes = found-in_range g.nodes g.found lead a.0 full.in_range in
    let live : IsLive g.found c = found-live g.nodes g.found lead a.0 full.in_range in
    let r : (x : Applied) × (y : Applied) × (x.0 ≡ c) × Correspond g h x y = has c in_range live in
    let v : IsValidIn g a = full-is_valid g.nodes g.found linked a full in
    let s : (b : Applied) × IsFull g.nodes b × (b.0 ≡ c) × (find g.found b ≡ find g.found a) =
    source-id g linked c in_range a v (find_class-live g.nodes g.found lead c in_range live) in
    let p : (π : Bijection) × (renamed_id π.to r.0 ≡ s.0) = full-bijection g.nodes r.0 s.0 r.3.left_full s.1 (r.2 ∙ sym s.2) in
    let moved_pair : Correspond g h (renamed_id p.0.to r.0) (renamed_id p.0.to r.1) = correspond-renamed g h rest_g rest_h p.0.to (to-injective p.0) r.0 r.1 r.3 in
    let pair : Correspond g h s.0 (renamed_id p.0.to r.1) = subst (λ x. Correspond g h x (renamed_id p.0.to r.1)) p.1 moved_pair in (
      renamed_id p.0.to r.1,
      record {
        left_full = full;
        right_full = pair.right_full;
        equal = joined (Equal-through known (found-equal g rest_g a s.0 full s.1 (sym s.3))) pair.equal;
      },
    )

module _ (g h : State) (rest_g : AtRest g) (rest_h : AtRest h) (none : HasNoOpenSymmetries h) (known : Knows h g) where
  -- what finds alike in g finds alike in h
  pub alike-there : (a b x y : Applied) → Correspond g h a b → Correspond g h x y → find g.found a ≡ find g.found x → find h.found b ≡ find h.found y
  alike-there a b x y c d e =
      equal-found h rest_h none b y c.right_full d.right_full (joined (turned c.equal) (joined (Equal-through known (found-equal g rest_g a x c.left_full d.left_full e)) d.equal))

  -- what finds one class in g finds one class in h
  pub class-there : (a b x y : Applied) → Correspond g h a b → Correspond g h x y → find_class g.found a.0 ≡ find_class g.found x.0 → find_class h.found b.0 ≡ find_class h.found y.0
  class-there a b x y c d e =
      let m : Meeting g.nodes g.found a.0 x.0 = meeting g.nodes g.found rest_g.sane.sound.linked a.0 x.0 c.left_full.in_range d.left_full.in_range e in
      let p : (π : Bijection) × (renamed_id π.to a ≡ m.left) = full-bijection g.nodes a m.left c.left_full m.left_full (sym m.left_class) in
      let q : (π : Bijection) × (renamed_id π.to x ≡ m.right) = full-bijection g.nodes x m.right d.left_full m.right_full (sym m.right_class) in
      ap (λ (z : Applied). z.0)
      (alike-there (renamed_id p.0.to a) (renamed_id p.0.to b) (renamed_id q.0.to x) (renamed_id q.0.to y)
      (correspond-renamed g h rest_g rest_h p.0.to (to-injective p.0) a b c) (correspond-renamed g h rest_g rest_h q.0.to (to-injective q.0) x y d)
      (ap (find g.found) p.1 ∙ (m.alike ∙ sym (ap (find g.found) q.1))))

  -- no name is found in h that is not found in g
  pub names-there : (a b : Applied) → Correspond g h a b → (x : ℕ) → In x (values (find h.found b).1) → In x (values (find g.found a).1)
  names-there a b c = fewer-names h.found g.found b a
      (λ f inj e. alike-there (renamed_id f a) (renamed_id f b) a b (correspond-renamed g h rest_g rest_h f inj a b c) c e)

  -- trees that are looked up in g are looked up in h
  pub tree-there : HasNoOpenSymmetries g → HasTermsOf h g → (t : DTerm) → IsTree t → (x : Applied) × (look_up_tree g t ≡ Some x) → (y : Applied) × (look_up_tree h t ≡ Some y)
  tree-there none_g has t tree r =
      let a : (a : Applied) × IsFull g.nodes a × Equal (asserted g.nodes g.proofs) (term_of g.nodes a) t = (rest-represented g rest_g none_g t tree).0 r in
      let b : (b : Applied) × Correspond g h a.0 b = each-corresponds g h rest_g rest_h known has a.0 a.1 in
      (rest-represented h rest_h none t tree).1 (b.0, b.1.right_full, joined (turned b.1.equal) (Equal-through known a.2))

  -- a tree that is looked up as what an id finds is looked up in h as what an id finds that corresponds to it
  pub looked_up-there : (a b : Applied) → Correspond g h a b → (t : DTerm) → IsTree t → look_up_tree g t ≡ Some (find g.found a) → look_up_tree h t ≡ Some (find h.found b)
  looked_up-there a b c t tree p =
      rest-look_up h rest_h b c.right_full (none-affected h none (find_class h.found b.0)) t tree
      (joined (turned c.equal) (Equal-through known (tree-of g rest_g a c.left_full t p)))

  -- and those that are looked up alike are so
  pub answer-there : (t u : DTerm) → IsTree t → IsTree u → (x : Applied) → look_up_tree g t ≡ Some x → look_up_tree g t ≡ look_up_tree g u → look_up_tree h t ≡ look_up_tree h u
  answer-there t u tree_t tree_u x p e =
      let v : IsValidIn g x = (tree-equal g rest_g t x p).0 in
      let b : (b : Applied) × IsFilling g.nodes [] x b = a_filling g.nodes (used_slots g.found) [] x v in
      rest-trees h rest_h none t u tree_t tree_u
      (Equal-through known (joined (turned (filled-equal g rest_g t x b.0 [] p b.1)) (filled-equal g rest_g u x b.0 [] (sym e ∙ p) b.1)))
