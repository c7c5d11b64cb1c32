-- The canonical node of an id's class with the id's names, and congruent steps over the kept lists.
use Rattle.std.proofs.Common.{◌≡◌, ℕ, zero, suc, ◌<◌, List, [], ◌∷◌, length, sym, subst, ap, ◌∙◌, refl, arith, rules}
use Rattle.std.specs.Prelude.{All, Contains, IsSome, slice_index_or}
use Rattle.std.proofs.Math.Nat.{suc_inj}
use Rattle.slotted_lists.proofs.Maps.{IsInjectiveMap-before}
use Rattle.slotted_lists.proofs.Lists.{slice_index_or-map}
use Rattle.slotted_slots.specs.Maps as code
use Rattle.slotted_theory.specs.FiniteMaps.{IsInjectiveMap, filled, with_values}
use Rattle.slotted_theory.specs.Nameless.{DTerm, stop, moved}
use Rattle.slotted_theory.proofs.Values.{node}
use Rattle.slotted_nodes.specs.Form.{Form}
use Rattle.slotted_languages.specs.NodeTerm.{nameless_node, free_names_of}
use Rattle.slotted_model.specs.Applied.{Applied, keys}
use Rattle.slotted_model.specs.Ascending.{names}
use Rattle.slotted_model.specs.Classes.{canonical_node, IsFull}
use Rattle.slotted_model.proofs.Finds.NormalIds.{Contains-ascending}
use Rattle.slotted_model.specs.Correspondence.{AllDifferent, IsFullMap}
use Rattle.slotted_model.proofs.Correspondences.FullMaps.{with_values-keys}
use Rattle.slotted_proofs.proofs.Stepping.{matches-state, entry-states, states-entry, left_full, middle_full}
use Rattle.slotted_proofs.specs.declared.equation.Equation.{Equation as Sides}
use Rattle.slotted_proofs.specs.AlikeNodes.{AreAlikeArgs, AreAlikeNodes}
use Rattle.slotted_proofs.specs.Equations.{to_applied}
use Rattle.slotted_proofs.specs.Entries.{Proven}
use Rattle.slotted_proofs.specs.Steps.{AreEntries, HasInjectiveSides, IsEntry, Matches}
use Rattle.slotted_alike.specs.Frames.{AreAlikeForms}
use Rattle.slotted_rebuilding.specs.Frames.{IsCongruentIn}
use Rattle.slotted_classes.specs.Kept.{Kept, node_at, nodes_of, no_form, no_entry}
use Rattle.slotted_alike.proofs.Frames.{forms_twins, MatchInTurn, match_at, ids_under}
use Rattle.slotted_classes.proofs.KeptLists.{any_default}

-- the canonical node of a class is that of its form
pub canonical-at : (k : Kept) (i : ℕ) → i < length (nodes_of k) → canonical_node (nodes_of k) i ≡ nameless_node (node_at k i)
canonical-at k i l = any_default (nodes_of k) i (node 0 [] stop) (nameless_node no_form) l ∙ slice_index_or-map (λ c. nameless_node c.0) k.classes i (no_form, no_entry)

has_key : (m : List (ℕ × ℕ)) (x : ℕ) → Contains (keys m) x → IsSome (code.value_of m x)
has_key [] x c = absurd (let l = c.1 in omega arith)
has_key (p ∷ m) x (zero, l, e) = rw e (search rules)
has_key (p ∷ m) x (suc k, l, e) = let h = has_key m x (k, omega arith, e) in search rules

-- an id names all free names of the canonical node
pub names_all : (k : Kept) (a : Applied) → IsFull (nodes_of k) a → (f : Form) → f ≡ node_at k a.0 → All (λ x. IsSome (code.value_of a.1 x)) (free_names_of f)
names_all k a full f e i d l =
    let c : canonical_node (nodes_of k) a.0 ≡ nameless_node f = canonical-at k a.0 full.in_range ∙ ap nameless_node (sym e) in
    let x : ℕ = slice_index_or (free_names_of f) i d in
    let h : Contains (free_names_of f) x = (i, l, any_default (free_names_of f) i x d l) in
    has_key a.1 x (subst (λ ks. Contains ks x) (sym (full.slots ∙ ap (λ (t : DTerm). names t) c)) (Contains-ascending (free_names_of f) x h))

-- the node with the names put in
pub named : (k : Kept) (a : Applied) → IsFull (nodes_of k) a → (f h : Form) → f ≡ node_at k a.0 → nameless_node h ≡ moved (filled a.1) (nameless_node f) → nameless_node h ≡ moved (filled a.1) (canonical_node (nodes_of k) a.0)
named k a full f h e m = m ∙ ap (moved (filled a.1)) (ap nameless_node e ∙ sym (canonical-at k a.0 full.in_range))

-- nodes with the names of the sides put in are alike exactly if the canonical nodes are, under the sides

module _ (k : Kept) (e : Sides) (f g : Form) (left : nameless_node f ≡ moved (filled e.l.m) (canonical_node (nodes_of k) e.l.id.0)) (right : nameless_node g ≡ moved (filled e.r.m) (canonical_node (nodes_of k) e.r.id.0)) (cs : List Sides) where
  pub alike_nodes : AreAlikeForms f g cs → AreAlikeNodes (canonical_node (nodes_of k) e.l.id.0) (canonical_node (nodes_of k) e.r.id.0) e cs
  alike_nodes h = record {
    operators = sym (ap (λ (d : DTerm). d.op) left) ∙ (ap suc h.operators ∙ ap (λ (d : DTerm). d.op) right);
    payloads = sym (ap (λ (d : DTerm). d.payloads) left) ∙ (h.payloads ∙ ap (λ (d : DTerm). d.payloads) right);
    args = subst (λ (p : DTerm × DTerm). AreAlikeArgs p.0.args p.1.args cs) (λ i. (left i, right i)) h.args;
  }

  pub alike_forms : AreAlikeNodes (canonical_node (nodes_of k) e.l.id.0) (canonical_node (nodes_of k) e.r.id.0) e cs → AreAlikeForms f g cs
  alike_forms h = record {
    operators = suc_inj (ap (λ (d : DTerm). d.op) left ∙ (h.operators ∙ sym (ap (λ (d : DTerm). d.op) right)));
    payloads = ap (λ (d : DTerm). d.payloads) left ∙ (h.payloads ∙ sym (ap (λ (d : DTerm). d.payloads) right));
    args = subst (λ (p : DTerm × DTerm). AreAlikeArgs p.0.args p.1.args cs) (λ i. (sym left i, sym right i)) h.args;
  }

-- equations that the same ids match are entries alike

own_side : (a c : Applied) (f : ℕ → ℕ) → c.1 ≡ with_values f a.1 → IsFullMap (keys c.1) c.1 → IsFullMap (keys a.1) a.1
own_side a c f e h = record {
  slots = refl;
  once = subst AllDifferent (ap keys e ∙ with_values-keys f a.1) h.once;
  injective = IsInjectiveMap-before f a.1 (subst IsInjectiveMap e h.injective);
}

other_side : (a c : Applied) (f : ℕ → ℕ) → c.1 ≡ with_values f a.1 → IsFullMap (keys a.1) a.1 → IsInjectiveMap c.1 → IsFullMap (keys c.1) c.1
other_side a c f e h i = record { slots = refl; once = subst AllDifferent (sym (ap keys e ∙ with_values-keys f a.1)) h.once; injective = i }

entry_again : (list : List Proven) (p : ℕ) (a b : Applied) (c d : Sides) → HasInjectiveSides c → HasInjectiveSides d → Matches a b (to_applied c.l) (to_applied c.r) → Matches a b (to_applied d.l) (to_applied d.r) → IsEntry list p (to_applied d.l) (to_applied d.r) → IsEntry list p (to_applied c.l) (to_applied c.r)
entry_again list p a b c d hc hd mc md h =
    let dl : IsFullMap (keys d.l.m) d.l.m = left_full list p (to_applied d.l) (to_applied d.r) hd.left h in
    let dr : IsFullMap (keys d.r.m) d.r.m = middle_full list p (to_applied d.l) (to_applied d.r) hd.right h in
    let al : IsFullMap (keys a.1) a.1 = own_side a (to_applied d.l) md.names.name md.names.left dl in
    let br : IsFullMap (keys b.1) b.1 = own_side b (to_applied d.r) md.names.name md.names.right dr in
    let cl : IsFullMap (keys c.l.m) c.l.m = other_side a (to_applied c.l) mc.names.name mc.names.left al hc.left in
    let cr : IsFullMap (keys c.r.m) c.r.m = other_side b (to_applied c.r) mc.names.name mc.names.right br hc.right in
    states-entry list p (to_applied c.l) (to_applied c.r) h.left h.right cl cr h.in_range h.written
    (sym (matches-state a b (to_applied c.l) (to_applied c.r) al br cl cr mc) ∙ (matches-state a b (to_applied d.l) (to_applied d.r) al br dl dr md ∙ entry-states list p (to_applied d.l) (to_applied d.r) dl dr h))

match_count : (ids bs : List Applied) (cs : List Sides) → MatchInTurn ids bs cs → length ids ≡ length cs
match_count [] [] [] h = refl
match_count (a ∷ ids) (b ∷ bs) (c ∷ cs) h = ap suc (match_count ids bs cs h.1)
match_count ids bs cs h = absurd h

entries_again : (list : List Proven) (ids bs : List Applied) (cs ds : List Sides) (parts : List ℕ) → MatchInTurn ids bs cs → MatchInTurn ids bs ds → All HasInjectiveSides cs → All HasInjectiveSides ds → AreEntries list parts ds → AreEntries list parts cs
entries_again list ids bs cs ds parts m n hc hd h =
    let x : length ids ≡ length cs = match_count ids bs cs m in
    let y : length ids ≡ length ds = match_count ids bs ds n in
    let z : length parts ≡ length ds = h.count in
    record {
      count = omega arith;
      each = λ k p c l.
          let a : Applied = (0, []) in
          entry_again list (slice_index_or parts k p) (slice_index_or ids k a) (slice_index_or bs k a) (slice_index_or cs k c) (slice_index_or ds k c) (hc k c (omega arith)) (hd k c (omega arith))
          (match_at ids bs cs m k a a c (omega arith)).1 (match_at ids bs ds n k a a c (omega arith)).1 (h.each k p c l);
    }

pub congruent_again : (k : Kept) (e : Sides) (f g : Form) (left : nameless_node f ≡ moved (filled e.l.m) (canonical_node (nodes_of k) e.l.id.0)) (right : nameless_node g ≡ moved (filled e.r.m) (canonical_node (nodes_of k) e.r.id.0)) (cs : List Sides) (parts : List ℕ) → AreAlikeForms f g cs → All HasInjectiveSides cs → IsCongruentIn k e parts → AreEntries k.proofs parts cs
congruent_again k e f g left right cs parts h once s =
    entries_again k.proofs (ids_under [] f.tree f.names) (ids_under [] g.tree g.names) cs s.children parts (forms_twins f g cs h).1 (forms_twins f g s.children (alike_forms k e f g left right s.children s.alike)).1 once s.injective s.entries
