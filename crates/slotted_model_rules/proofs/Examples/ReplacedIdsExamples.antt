-- The laws of substitution over ids held against the graph of var, of app over two of it, and of lam over this: there
-- (lam $9 (app (var $9) (var $8)))[(var $8) := (var $7)] is walked from the bottom up.
use Rattle.std.proofs.Common.{◌≡◌, ◌≢◌, ◌⊎◌, ℕ, zero, suc, ◌<◌, List, [], ◌∷◌, ap, refl, inl, inr, arith}
use Rattle.std.specs.Prelude.{Contains}
use Rattle.slotted_lists.proofs.Contained.{contains_head, Contains-nil}
use Rattle.slotted_theory.specs.Nameless.{DTerm, stop, place, scope, moved}
use Rattle.slotted_theory.specs.Shape.{free_names, shape}
use Rattle.slotted_theory.proofs.Values.{node, child_before}
use Rattle.slotted_model.specs.Applied.{Applied, as_term}
use Rattle.slotted_model.specs.Classes.{canonical_node, canonical_slots, term_of, IsFull}
use Rattle.slotted_model.specs.Filling.{FillsArgs}
use Rattle.slotted_model.specs.Growth.{IsNew, Added}
use Rattle.slotted_model.proofs.Examples.CompletenessExamples.{one_of}
use Rattle.slotted_model.proofs.Represented.Fillings.{fills-itself}
use Rattle.slotted_model.proofs.Represented.Growing.{added, Canonical-nil}
use Rattle.slotted_model_rules.specs.Matcher.{NodeArgs, no_more, an_id, a_binder, unnamed}
use Rattle.slotted_model_rules.specs.Substitution.{substituted, StandsIn}
use Rattle.slotted_model_rules.specs.ReplacedIds.{IsReplaced, IsOlderOrLacks, HasReplacedIds, id_at}
use Rattle.slotted_model_rules.proofs.Laws.{replaced-id-laws}

-- the class 0 is var of the slot 5, 1 is app of it at 7 and at 9, and 2 is lam of this, with the slot 4
abbrev var_node : DTerm
var_node = node 1 [] (place 5 stop)

abbrev app_node : DTerm
app_node = node 3 [] (child_before (as_term (0, (5, 7) ∷ [])) (child_before (as_term (0, (5, 9) ∷ [])) stop))

abbrev lam_node : DTerm
lam_node = node 2 [] (scope (child_before (as_term (1, (7, 0) ∷ (9, 5) ∷ [])) stop) stop)

abbrev small : List DTerm
small = var_node ∷ app_node ∷ []

abbrev graph : List DTerm
graph = var_node ∷ app_node ∷ lam_node ∷ []

slots_of_lam : canonical_slots graph 2 ≡ 4 ∷ []
slots_of_lam = refl

-- var of a name, app over two of these, and lam over app, where one of these is bound
abbrev var : ℕ → Applied
var y = (0, (5, y) ∷ [])

abbrev app : ℕ → ℕ → Applied
app y z = (1, (7, y) ∷ (9, z) ∷ [])

abbrev lam : ℕ → Applied
lam y = (2, (4, y) ∷ [])

differ : {x y : ℕ} → x ≢ y → ◌≡◌ x y ⊎ ⊥ → ⊥
differ n (inl e) = n e
differ n (inr k) = k

with_var : Added [] (var_node ∷ []) var_node
with_var = added [] var_node Canonical-nil (record { operator = omega arith; children = tt; shape_is_new = λ i l p. omega arith })

app_is_new : IsNew (var_node ∷ []) app_node
app_is_new = record {
  operator = omega arith;
  children = (
    (var 7, refl, record { in_range = omega arith; slots = refl; injective = (λ h. h, tt) }),
    ((var 9, refl, record { in_range = omega arith; slots = refl; injective = (λ h. h, tt) }), tt),
  );
  shape_is_new = other;
}
  where
    other : (i : ℕ) → i < 1 → ¬ (shape (canonical_node (var_node ∷ []) i) ≡ shape app_node)
    other zero l p = let e : ◌≡◌ {A = ℕ} 1 3 = ap (λ (t : DTerm). t.op) p in omega arith
    other (suc i) l p = omega arith

with_app : Added (var_node ∷ []) small app_node
with_app = added (var_node ∷ []) app_node with_var.canonical app_is_new

lam_is_new : IsNew small lam_node
lam_is_new = record {
  operator = omega arith;
  children = (
    ((app 0 5, refl, record { in_range = omega arith; slots = refl; injective = (differ (λ e. omega arith), (λ h. h, tt)) }), tt),
    tt,
  );
  shape_is_new = other;
}
  where
    other : (i : ℕ) → i < 2 → ¬ (shape (canonical_node small i) ≡ shape lam_node)
    other zero l p = let e : ◌≡◌ {A = ℕ} 1 2 = ap (λ (t : DTerm). t.op) p in omega arith
    other (suc zero) l p = let e : ◌≡◌ {A = ℕ} 3 2 = ap (λ (t : DTerm). t.op) p in omega arith
    other (suc (suc i)) l p = omega arith

with_lam : Added small graph lam_node
with_lam = added small lam_node with_app.canonical lam_is_new

-- these ids are full
var_full : (y : ℕ) → IsFull small (var y)
var_full y = record { in_range = omega arith; slots = refl; injective = (λ h. h, tt) }

app_full : (y z : ℕ) → y ≢ z → IsFull small (app y z)
app_full y z n = record { in_range = omega arith; slots = refl; injective = (differ n, (λ h. h, tt)) }

lam_full : (y : ℕ) → IsFull graph (lam y)
lam_full y = record { in_range = omega arith; slots = refl; injective = (λ h. h, tt) }

-- (var $8) stands in (app (var $9) (var $8)): so it is older, and its name is one of app's
in_app : StandsIn (term_of small (var 8)) (term_of small (app 9 8))
in_app = inr (inr (inl (inl refl)))

app_9_8 : IsFull small (app 9 8)
app_9_8 = app_full 9 8 (λ e. omega arith)

is_older : (app 9 8 ≡ var 8) ⊎ (0 < 1)
is_older = replaced-id-laws.parts_are_older small with_app.canonical (var 8) (app 9 8) (var_full 8) app_9_8 in_app

has_its_name : Contains {X = ℕ} (9 ∷ 8 ∷ []) 8
has_its_name =
    replaced-id-laws.parts_have_fewer_names small with_app.canonical (var 8) (app 9 8) (var_full 8) app_9_8 in_app 8
    (contains_head 8 [])

is_free_in_it : Contains (free_names (term_of small (app 9 8)).args) 8
is_free_in_it =
    replaced-id-laws.parts_have_fewer_free_names (term_of small (var 8)) (term_of small (app 9 8)) in_app 8
    (contains_head 8 [])

-- (var $9) lacks the name of (var $8), so it stays, whatever is put for this
lacks_8 : IsOlderOrLacks (var 9) (var 8)
lacks_8 = inr (8, contains_head 8 [], λ c. let e : ◌≡◌ {A = ℕ} 8 9 = one_of c in omega arith)

var_stays : IsReplaced small (var 8) (var 7) (var 9) (var 9)
var_stays =
    (replaced-id-laws.older_ids_stay small with_app.canonical (var 8) (var 9) (var_full 8) (var_full 9) lacks_8).1 (var 7)

-- and so it does where app is to be replaced, which is newer
var_is_older : IsReplaced small (app 9 8) (var 7) (var 8) (var 8)
var_is_older =
    (replaced-id-laws.older_ids_stay small with_app.canonical (app 9 8) (var 8) app_9_8 (var_full 8) (inl (omega arith))).1
    (var 7)

-- under a binder (var $8) is that of 9, and the bound name 0 is another one
bound_stays : substituted (moved suc (term_of small (var 8))) (term_of small (var 5)) (term_of small (var 0)) ≡ term_of small (var 0)
bound_stays =
    replaced-id-laws.older_ids_stay_inside small with_app.canonical suc (λ x y e. omega (arith, e)) (var 8) (var 0) (var_full 8)
    (var_full 0) (inr (9, contains_head 9 [], λ c. let e : ◌≡◌ {A = ℕ} 9 0 = one_of c in omega arith)) (term_of small (var 5))

-- (var $8) itself becomes (var $7)
var_goes : IsReplaced small (var 8) (var 7) (var 8) (var 7)
var_goes = replaced-id-laws.whole_ids_are_replaced small (var 8) (var 7) (var_full 7)

-- so the children of (app (var $9) (var $8)) become those of (app (var $9) (var $7))
abbrev children : ℕ → NodeArgs
children z = an_id (var 9) (an_id (var z) no_more)

children_go : HasReplacedIds small (var 8) (var 7) (children 8) (children 7)
children_go = (var 9, an_id (var 7) no_more, refl, var_full 9, var_stays, (var 7, no_more, refl, var_full 8, var_goes, refl))

-- the same by a loop over them
children_go_in_turn : HasReplacedIds small (var 8) (var 7) (children 8) (children 7)
children_go_in_turn =
    replaced-id-laws.ids_are_replaced_by_number small (var 8) (var 7) (children 8) (children 7)
    (var 9, an_id (var 7) no_more, refl, (var 7, no_more, refl, refl)) (λ y c. absurd (Contains-nil y c)) each
  where
    each : (k : ℕ) → k < 2 → IsFull small (id_at (children 8) k) × IsReplaced small (var 8) (var 7) (id_at (children 8) k) (id_at (children 7) k)
    each zero l = (var_full 9, var_stays)
    each (suc zero) l = (var_full 8, var_goes)
    each (suc (suc k)) l = absurd (omega (arith, l))

not_var : (y z w : ℕ) → app y z ≢ var w
not_var y z w p = let e : ◌≡◌ {A = ℕ} 1 0 = ap (λ (a : Applied). a.0) p in omega arith

children_filled : FillsArgs small [] (unnamed (λ y. y) (children 7)) (unnamed (λ y. y) (children 7))
children_filled = (
  var 9,
  _,
  refl,
  fills-itself small [] (var 9) (var_full 9),
  (var 7, _, refl, fills-itself small [] (var 7) (var_full 7), refl),
)

-- and app becomes this
app_goes : IsReplaced small (var 8) (var 7) (app 9 8) (app 9 7)
app_goes =
    replaced-id-laws.named_nodes_are_searched small with_app.canonical (var 8) (var 7) (app 9 8) (app 9 7) (var_full 8)
    (var_full 7) app_9_8 (not_var 9 8 8) 3 [] (children 8) refl (children 7) children_go []
    (unnamed (λ y. y) (children 7)) children_filled (app_full 9 7 (λ e. omega arith)) refl

-- the same by children without names
app_goes_too : IsReplaced small (var 8) (var 7) (app 9 8) (app 9 7)
app_goes_too =
    replaced-id-laws.other_ids_are_searched small with_app.canonical (var 8) (var 7) (app 9 8) (app 9 7) (var_full 8) app_9_8
    (not_var 9 8 8) (node 3 [] (unnamed (λ y. y) (children 8))) refl (unnamed (λ y. y) (children 7))
    (replaced-id-laws.names_are_seen_inside small with_app.canonical (var 8) (var 7) (var_full 8) (var_full 7) (children 8)
    (children 7) children_go)
    [] (unnamed (λ y. y) (children 7)) children_filled (app_full 9 7 (λ e. omega arith)) refl

-- it does so still in the graph that has lam too
app_goes_later : IsReplaced graph (var 8) (var 7) (app 9 8) (app 9 7)
app_goes_later =
    (replaced-id-laws.replaced_ids_stay small graph with_lam.extends (var 8) (var 7) (var_full 8) (var_full 7)).0 (app 9 8)
    (app 9 7) app_9_8 app_goes

-- and it does where a class is made after what comes of the children was found
app_is_added : IsReplaced graph (var 8) (var 7) (app 9 8) (app 9 7)
app_is_added =
    replaced-id-laws.added_nodes_are_replaced small graph with_lam.extends with_lam.canonical (var 8) (var 7) (app 9 8)
    (app 9 7) (var_full 8) (var_full 7) app_9_8 (not_var 9 8 8) 3 [] (children 8) refl (children 7) children_go []
    (unnamed (λ y. y) (children 7)) children_filled (with_lam.extends.full (app 9 7) (app_full 9 7 (λ e. omega arith))) refl

filled_later : FillsArgs graph [] (unnamed (λ y. y) (children 7)) (unnamed (λ y. y) (children 7))
filled_later =
    replaced-id-laws.filled_arguments_stay small graph with_lam.extends [] (unnamed (λ y. y) (children 7))
    (unnamed (λ y. y) (children 7)) children_filled

-- where the binder is 9, a name of neither, lam of the one becomes lam of the other: 7 is not captured
abbrev under_9 : ℕ → NodeArgs
under_9 z = a_binder 9 (an_id (app 9 z) no_more) no_more

body_goes : HasReplacedIds graph (var 8) (var 7) (under_9 8) (under_9 7)
body_goes = (
  an_id (app 9 7) no_more,
  no_more,
  refl,
  λ c. let e : ◌≡◌ {A = ℕ} 9 8 = one_of c in omega arith,
  λ c. let e : ◌≡◌ {A = ℕ} 9 7 = one_of c in omega arith,
  (app 9 7, no_more, refl, with_lam.extends.full (app 9 8) app_9_8, app_goes_later, refl),
  refl,
)

lam_goes : IsReplaced graph (var 8) (var 7) (lam 8) (lam 7)
lam_goes =
    replaced-id-laws.named_nodes_are_searched graph with_lam.canonical (var 8) (var 7) (lam 8) (lam 7)
    (with_lam.extends.full (var 8) (var_full 8)) (with_lam.extends.full (var 7) (var_full 7)) (lam_full 8) other 2 []
    (under_9 8) refl (under_9 7) body_goes [] (unnamed (λ y. y) (under_9 7)) filled (lam_full 7) refl
  where
    other : lam 8 ≢ var 8
    other p = let e : ◌≡◌ {A = ℕ} 2 0 = ap (λ (a : Applied). a.0) p in omega arith

    filled : FillsArgs graph [] (unnamed (λ y. y) (under_9 7)) (unnamed (λ y. y) (under_9 7))
    filled =
        let full : IsFull graph (app 0 8) = with_lam.extends.full (app 0 8) (app_full 0 8 (λ e. omega arith)) in
        (_, _, refl, (app 0 8, _, refl, fills-itself graph (0 ∷ []) (app 0 8) full, refl), refl)

-- as terms it is computed
lam_computed : term_of graph (lam 7) ≡ substituted (term_of graph (var 8)) (term_of graph (var 7)) (term_of graph (lam 8))
lam_computed = refl

-- where the binder had the name 7 it would be captured, and this is refused: the name of the binder is one of (var $7)
captured : HasReplacedIds graph (var 8) (var 7) (a_binder 7 (an_id (app 7 8) no_more) no_more) (a_binder 7 (an_id (app 7 7) no_more) no_more) → ⊥
captured k = k.4 (contains_head 7 [])

-- (app (var $9) (var $10)) stays since both children do
app_stays : IsReplaced small (var 8) (var 7) (app 9 10) (app 9 10)
app_stays =
    replaced-id-laws.unchanged_nodes_stay small with_app.canonical (var 8) (var 7) (app 9 10) (var_full 8) (var_full 7)
    (app_full 9 10 (λ e. omega arith)) (not_var 9 10 8) 3 [] (children 10) refl
    (var 9, an_id (var 10) no_more, refl, var_full 9, var_stays, (var 10, no_more, refl, var_full 10, ten_stays, refl))
  where
    ten_stays : IsReplaced small (var 8) (var 7) (var 10) (var 10)
    ten_stays =
        (replaced-id-laws.older_ids_stay small with_app.canonical (var 8) (var 10) (var_full 8) (var_full 10)
        (inr (8, contains_head 8 [], λ c. let e : ◌≡◌ {A = ℕ} 8 10 = one_of c in omega arith))).1
        (var 7)
