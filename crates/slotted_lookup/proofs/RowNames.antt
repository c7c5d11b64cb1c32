-- The names of a node beside the slots of a row: which names stand there, and that finds do not see their order.
use Rattle.std.proofs.Common.{◌≡◌, ℕ, true, List, [], ◌∷◌, length, map, fold, refl, ap, ◌∙◌, sym, subst, inl, inr}
use Rattle.std.specs.List.{zip}
use Rattle.slotted_lists.proofs.Members.{In}
use Rattle.slotted_lists.proofs.Maps.{keys-beside}
use Rattle.slotted_theory.specs.FiniteMaps as model
use Rattle.slotted_theory.specs.Nameless.{DTerm}
use Rattle.slotted_theory.specs.Shape.{free_names, number_in, shape}
use Rattle.slotted_slots.specs.Maps.{all_differ, value_of, with_pair}
use Rattle.slotted_slots.proofs.MapLaws.{value_of-map_of}
use Rattle.slotted_languages.specs.Shape.{firsts}
use Rattle.slotted_model.specs.Applied.{keys, values}
use Rattle.slotted_model.specs.Ascending.{names}
use Rattle.slotted_model.specs.Find.{Entry, find, find_class, find_map}
use Rattle.slotted_model.specs.State.{name_numbered}
use Rattle.slotted_model.proofs.Rebuilding.Rows.{name_numbered-at}
use Rattle.slotted_proofs.proofs.Bridges.{composite-agrees, value_of-model}
use Rattle.slotted_classes.specs.Names.{between, with_pairs}
use Rattle.slotted_classes.proofs.NamePairs.{In-firsts}
use Rattle.slotted_hashcons.proofs.NumbersInShapes.{names-shape}

map-back : (g N : ℕ → ℕ) (vs : List ℕ) → ((v : ℕ) → In v vs → g (N v) ≡ v) → map g (map N vs) ≡ vs
map-back g N [] h = refl
map-back g N (v ∷ vs) h = λ i. h v (inl refl) i ∷ map-back g N vs (λ w k. h w (inr k)) i

-- the names of the numbers of a shape, in the order of the numbers
pub numbered-names : (d : DTerm) → map (name_numbered d) (names (shape d)) ≡ firsts (free_names d.args)
numbered-names d =
    let xs : List ℕ = free_names d.args in
    ap (map (name_numbered d)) (names-shape d) ∙ map-back (name_numbered d) (number_in xs) (firsts xs) (λ v h. name_numbered-at d v ((In-firsts v xs).0 h))

-- each slot with the name of its number
pub slots-named : (name : ℕ → ℕ) (ks vs : List ℕ) → map {B = ℕ × ℕ} (λ (p : ℕ × ℕ). (p.1, name p.0)) (zip ks vs) ≡ zip vs (map name ks)
slots-named name [] [] = refl
slots-named name [] (v ∷ vs) = refl
slots-named name (k ∷ ks) [] = refl
slots-named name (k ∷ ks) (v ∷ vs) = ap (λ r. (v, name k) ∷ r) (slots-named name ks vs)

-- pairs put into a map one after another are the map of the pairs
with_pairs-fold : (m ps : List (ℕ × ℕ)) → with_pairs m ps ≡ fold (λ n p. with_pair n p.0 p.1) m ps
with_pairs-fold m [] = refl
with_pairs-fold m (p ∷ ps) = with_pairs-fold (with_pair m p.0 p.1) ps

pub with_pairs-finds : (ps : List (ℕ × ℕ)) → all_differ (keys ps) ≡ true → (x : ℕ) → model.value_of (with_pairs [] ps) x ≡ model.value_of ps x
with_pairs-finds ps differ x =
    sym (value_of-model (with_pairs [] ps) x)
    ∙ (ap (λ m. value_of m x) (with_pairs-fold [] ps) ∙ (value_of-map_of ps differ x ∙ value_of-model ps x))

-- a find sees which name a slot has, and not the order of the names
pub find-beside : (found : List Entry) (i : ℕ) (m n : List (ℕ × ℕ)) → all_differ (values m) ≡ true → length (values m) ≡ length (values n) →
    find found (i, between m n) ≡ find found (i, zip (values m) (values n))
find-beside found i m n differ e =
    let once : all_differ (keys (zip (values m) (values n))) ≡ true = subst (λ xs. all_differ xs ≡ true) (sym (keys-beside (values m) (values n) e)) differ in
    let whole = composite-agrees (find_map found i) (between m n) (zip (values m) (values n)) (with_pairs-finds (zip (values m) (values n)) once) in
    λ j. (find_class found i, whole j)
