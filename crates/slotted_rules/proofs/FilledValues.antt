-- A substitution is filled value by value.
use Rattle.std.proofs.Common.{◌≡◌, ◌∙◌, ap, refl, sym, subst, ℕ, List, [], ◌∷◌, ◌++◌, map, arith}
use Rattle.std.specs.Prelude.{All, IsTrue, Option, Some, Bool, true, false, cond, is_some, String, string_bytes}
use Rattle.std.specs.declared.alloc.Global.{Global}
use Rattle.std.specs.BTreeMap.{insert_entry}
use Rattle.std.specs.Cmp.Lexicographic.{slice_cmp}
use Rattle.std.specs.List.{AllByRecursion}
use Rattle.std.specs.List.Sorted.{IsStrictlySortedBy}
use Rattle.std.specs.Map.{keys_of}
use Rattle.std.specs.Ordering.{match_ordering, nat_cmp, ordering_reverse}
use Rattle.std.specs.declared.cmp.Ordering.{Ordering}
use Rattle.std.specs.declared.cmp.Ordering.TheVariants.{Less, Greater}
use Rattle.std.proofs.lemmas.Cmp.{nat_list_cmp_total}
use Rattle.std.proofs.lemmas.List.{append_assoc, map-append}
use Rattle.std.proofs.lemmas.List.Elements.{All-append, All-head, All-push, All-tail}
use Rattle.std.proofs.lemmas.Map.Keys.{sorted_head, sorted_tail}
use Rattle.slotted_lists.proofs.Each.{Each-append, Each-from_All}
use Rattle.slotted_slots.specs.Maps.{values}
use Rattle.slotted_slots.specs.Table.{AllKnown, KnowsMore, Table, is_known}
use Rattle.slotted_slots.specs.declared.types.AppliedId.{AppliedId}
use Rattle.slotted_theory.specs.Decided.{numbers_eq}
use Rattle.slotted_theory.specs.Nameless.{DTerm}
use Rattle.slotted_patterns.specs.Tree.{PatternTree}
use Rattle.slotted_proofs.specs.Equations.{to_applied}
use Rattle.slotted_model.specs.Applied.{Applied}
use Rattle.slotted_model.specs.Growth.{Extends}
use Rattle.slotted_model.proofs.Represented.Fillings.{fills-itself}
use Rattle.slotted_operations.proofs.CallerLemmas.{full-valid, takes_twice}
use Rattle.slotted_graph.specs.Graph.{Graph, IsFullId, OnlyTakesSlots}
use Rattle.slotted_graph.specs.Image.{Image}
use Rattle.slotted_graph.specs.Syn.{FillsFresh}
use Rattle.slotted_graph.specs.Extension.{ExtendsTo}
use Rattle.slotted_graph.specs.ValidIds.{IsValidId}
use Rattle.slotted_graph.proofs.Extending.{extends-itself, extends-takes, full-extends}
use Rattle.slotted_model_rules.specs.Conditions.{Values}
use Rattle.slotted_model_rules.specs.Matcher.{value_at}
use Rattle.slotted_rule_patterns.specs.Variables.{has_value}
use Rattle.slotted_rules.specs.Filled.{AreFullValues, FillsBeside, FillsValues}
use Rattle.slotted_rules.specs.Instances.{AreValidValues, HasValues}
use Rattle.slotted_rules.proofs.Putting.{filling-later, fills-unknown}

-- the entries of a map as variables with their ids
abbrev pub shown : List (String Global × AppliedId) → Values
shown es = map (λ e. (string_bytes e.0, to_applied e.1)) es

-- the names of the values so far
abbrev names_before : List ℕ → Values → List ℕ
names_before older [] = older
names_before older (d ∷ f) = names_before (values d.1.1 ++ older) f

abbrev order : String Global → String Global → Ordering
order a b = slice_cmp nat_cmp (string_bytes a) (string_bytes b)

last-one : (P : String Global → Type 0) (done rest : List (String Global × AppliedId)) (e : String Global × AppliedId) → AllByRecursion P (keys_of (done ++ e ∷ rest)) → P e.0
last-one P [] rest e h = h.0
last-one P (p ∷ done) rest e h = last-one P done rest e h.1

-- one more value
module _ (t : Table) (nodes : List DTerm) where
  fills-more : (older : List ℕ) (s f : Values) (e d : List ℕ × Applied) → FillsValues t nodes older s f → d.0 ≡ e.0 → FillsBeside t nodes (names_before older f) e.1 d.1 → FillsValues t nodes older (s ++ e ∷ []) (f ++ d ∷ [])
  fills-more older [] [] e d h n b = (n, b, tt)
  fills-more older [] (q ∷ f) e d h n b = absurd h
  fills-more older (p ∷ s) [] e d h n b = absurd h
  fills-more older (p ∷ s) (q ∷ f) e d h n b = (h.0, h.1, fills-more (values q.1.1 ++ older) s f e d h.2 n b)

  -- an entry whose name comes after all others goes last
  goes-last : (older : List ℕ) (done rest full : List (String Global × AppliedId)) (e d : String Global × AppliedId) → FillsValues t nodes older (shown done) (shown full) → string_bytes d.0 ≡ string_bytes e.0 →
      IsStrictlySortedBy order (keys_of (done ++ e ∷ rest)) → insert_entry order full d.0 d.1 ≡ full ++ d ∷ []
  goes-last older [] rest [] e d h n sorted = refl
  goes-last older [] rest (q ∷ full) e d h n sorted = absurd h
  goes-last older (p ∷ done) rest [] e d h n sorted = absurd h
  goes-last older (p ∷ done) rest (q ∷ full) e d h n sorted =
      let below : order p.0 e.0 ≡ Less = last-one (λ y. order p.0 y ≡ Less) done rest e (sorted_head order p.0 (keys_of (done ++ e ∷ rest)) sorted) in
      let above : order d.0 q.0 ≡ Greater = (λ j. slice_cmp nat_cmp (n j) (h.0 j)) ∙ (nat_list_cmp_total.antisymm (string_bytes e.0) (string_bytes p.0) ∙ ap ordering_reverse below) in
      ap (λ o. match_ordering o (d ∷ q ∷ full) ((q.0, d.1) ∷ full) (q ∷ insert_entry order full d.0 d.1)) above
      ∙ ap (λ l. q ∷ l) (goes-last (values q.1.m ++ older) done rest full e d h.2 n (sorted_tail order p.0 (keys_of (done ++ e ∷ rest)) sorted))

-- names that are known

values-known : (u : Table) (older : List ℕ) (f : Values) → AllKnown u older → All (λ e. AllKnown u (values e.1.1)) f → AllKnown u (names_before older f)
values-known u older [] k h = k
values-known u older (d ∷ f) k h =
    values-known u (values d.1.1 ++ older) f (All-append (λ s. IsTrue (is_known u s)) (values d.1.1) older (h 0 d (omega arith)) k) (λ n e l. h (ℕ.suc n) e (omega (arith, l)))

-- what fresh slots fill is filled by none that was known
fills-beside : (o : Table) (g h : Graph) (names : List ℕ) (a b : Applied) → KnowsMore o g.table → AllKnown g.table names → FillsFresh g.image g.table h.table a b → FillsBeside o g.image.canonical names a b
fills-beside o g h names a b more known fresh given k =
    fills-unknown g.table h.table g.image g.image.canonical g.table a b (λ s e. e) (extends-itself g).canonical fresh (names ++ given)
    (All-append (λ s. IsTrue (is_known g.table s)) names given known (λ j d l. more _ (k j d l)))

pub full-values-later : (g h : Graph) (f : Values) → ExtendsTo g h → AreFullValues g f → AreFullValues h f
full-values-later g h f e full k d l = full-extends g h _ e (full k d l)

pub full-values-valid : (g : Graph) (f : Values) → AreFullValues g f → AreValidValues g f
full-values-valid g f full k d l = full-valid g _ (full k d l)

-- the values of the first entries of the map are filled; `left` are the others
pub record HasFilled (g h : Graph) (all left made : List (String Global × AppliedId)) : Type 0 where
  pub done : List (String Global × AppliedId)
  pub split : done ++ left ≡ all
  pub fills : FillsValues g.table g.image.canonical [] (shown done) (shown made)
  pub full : AreFullValues h (shown made)
  pub takes : OnlyTakesSlots g h

-- the next value
module _ (g e : Graph) (all left rest made : List (String Global × AppliedId)) (key : String Global) (value : AppliedId) (so_far : HasFilled g e all left made) (is : left ≡ (key, value) ∷ rest) where
  parted : so_far.done ++ (key, value) ∷ rest ≡ all
  parted = ap (λ l. so_far.done ++ l) (sym is) ∙ so_far.split

  pub next-valid : AreValidValues g (shown all) → IsValidId e (to_applied value)
  next-valid valid =
      let P : List ℕ × Applied → Type 0 = λ d. IsValidId g d.1 in
      let listed : shown all ≡ shown so_far.done ++ (string_bytes key, to_applied value) ∷ shown rest = ap shown (sym parted) ∙ map-append (λ d. (string_bytes d.0, to_applied d.1)) so_far.done ((key, value) ∷ rest) in
      let each = Each-append P (shown so_far.done) ((string_bytes key, to_applied value) ∷ shown rest) (Each-from_All P (shown so_far.done ++ (string_bytes key, to_applied value) ∷ shown rest) (subst (All P) listed valid)) in
      (extends-takes g e so_far.takes).valid (to_applied value) each.1.0

  module _ (h : Graph) (name : String Global) (id : AppliedId) (now : List (String Global × AppliedId)) where
    pub next-filled : IsStrictlySortedBy order (keys_of all) → string_bytes name ≡ string_bytes key → IsFullId h (to_applied id) → FillsFresh e.image e.table h.table (to_applied value) (to_applied id) →
        OnlyTakesSlots e h → now ≡ insert_entry order made name id → HasFilled g h all rest now
    next-filled sorted same full fresh takes put =
        let old : Values = shown made in
        let d : List ℕ × Applied = (string_bytes name, to_applied id) in
        let names = values-known e.table [] old (λ k x l. absurd (omega (arith, l))) (λ k x l. (so_far.full k x l).known) in
        let beside : FillsBeside g.table g.image.canonical (names_before [] old) (to_applied value) (to_applied id) =
        subst (λ (x : Image). FillsBeside g.table x.canonical (names_before [] old) (to_applied value) (to_applied id)) so_far.takes.reads.image
        (fills-beside g.table e h (names_before [] old) (to_applied value) (to_applied id) so_far.takes.reads.more names fresh) in
        let last : now ≡ made ++ (name, id) ∷ [] = put ∙ goes-last g.table g.image.canonical [] so_far.done rest made (key, value) (name, id) so_far.fills same (subst (λ es. IsStrictlySortedBy order (keys_of es)) (sym parted) sorted) in
        let listed : shown now ≡ old ++ d ∷ [] = ap shown last ∙ map-append (λ x. (string_bytes x.0, to_applied x.1)) made ((name, id) ∷ []) in
        let done : shown (so_far.done ++ (key, value) ∷ []) ≡ shown so_far.done ++ (string_bytes key, to_applied value) ∷ [] = map-append (λ x. (string_bytes x.0, to_applied x.1)) so_far.done ((key, value) ∷ []) in
        record {
          done = so_far.done ++ (key, value) ∷ [];
          split = append_assoc so_far.done ((key, value) ∷ []) rest ∙ parted;
          fills = subst (λ s. FillsValues g.table g.image.canonical [] s (shown now)) (sym done) (subst (FillsValues g.table g.image.canonical [] (shown so_far.done ++ (string_bytes key, to_applied value) ∷ [])) (sym listed)
              (fills-more g.table g.image.canonical [] (shown so_far.done) old (string_bytes key, to_applied value) d so_far.fills same beside));
          full = subst (AreFullValues h) (sym listed)
              (All-push (λ x. IsFullId h x.1) old d (full-values-later e h old (extends-takes e h takes) so_far.full) full);
          takes = takes_twice g e h so_far.takes takes;
        }

-- values that lack no name are filled by themselves
pub fills-full : (g : Graph) (older : List ℕ) (s : Values) → AreFullValues g s → FillsValues g.table g.image.canonical older s s
fills-full g older [] full = tt
fills-full g older (e ∷ s) full = (
  refl,
  λ given known. fills-itself g.image.canonical (older ++ given) e.1 (All-head (λ (d : List ℕ × Applied). IsFullId g d.1) e s full).full,
  fills-full g (values e.1.1 ++ older) s (All-tail (λ (d : List ℕ × Applied). IsFullId g d.1) e s full),
)

-- one more value that lacks no name
pub one-full : (g : Graph) (all left rest done : List (String Global × AppliedId)) (key : String Global) (value : AppliedId) → done ++ left ≡ all → AreFullValues g (shown done) → left ≡ (key, value) ∷ rest → IsFullId g (to_applied value) →
    (now : List (String Global × AppliedId)) × (now ++ rest ≡ all) × AreFullValues g (shown now)
one-full g all left rest done key value split so_far is full = (
  done ++ (key, value) ∷ [],
  append_assoc done ((key, value) ∷ []) rest ∙ (ap (λ l. done ++ l) (sym is) ∙ split),
  subst (AreFullValues g) (sym (map-append (λ (x : String Global × AppliedId). (string_bytes x.0, to_applied x.1)) done ((key, value) ∷ [])))
      (All-push (λ (x : List ℕ × Applied). IsFullId g x.1) (shown done) (string_bytes key, to_applied value) so_far full),
)

pub takes-none : (g : Graph) → OnlyTakesSlots g g
takes-none g = record { reads = record { image = refl; filed = refl; part = refl; failed = refl; more = λ s k. k }; names = refl }

-- values that are filled are so in a longer stretch
pub fills-wider : (t u : Table) (nodes newer : List DTerm) → KnowsMore t u → Extends nodes newer → (older : List ℕ) (s f : Values) → FillsValues u nodes older s f → FillsValues t newer older s f
fills-wider t u nodes newer more ext older [] [] h = tt
fills-wider t u nodes newer more ext older [] (d ∷ f) h = absurd h
fills-wider t u nodes newer more ext older (e ∷ s) [] h = absurd h
fills-wider t u nodes newer more ext older (e ∷ s) (d ∷ f) h = (
  h.0,
  λ given known. filling-later nodes newer ext (older ++ given) e.1 d.1 (h.1 given (λ k x l. more _ (known k x l))),
  fills-wider t u nodes newer more ext (values d.1.1 ++ older) s f h.2,
)

-- each variable that has a value has one that is filled
module _ (t : Table) (nodes : List DTerm) where
  filled-has : (older : List ℕ) (s f : Values) → FillsValues t nodes older s f → (v : List ℕ) → has_value f v ≡ has_value s v
  filled-has older [] [] h v = refl
  filled-has older [] (d ∷ f) h v = absurd h
  filled-has older (e ∷ s) [] h v = absurd h
  filled-has older (e ∷ s) (d ∷ f) h v =
      ap (λ n. is_some (cond (numbers_eq n v) (Some d.1) (value_at f v))) h.0
      ∙ either_has (numbers_eq e.0 v) d.1 e.1 (value_at f v) (value_at s v) (filled-has (values d.1.1 ++ older) s f h.2 v)
    where
      either_has : (b : Bool) (x y : Applied) (o p : Option Applied) → is_some o ≡ is_some p → is_some (cond b (Some x) o) ≡ is_some (cond b (Some y) p)
      either_has true x y o p h = refl
      either_has false x y o p h = h

  pub filled-given : (s f : Values) (q : PatternTree) → FillsValues t nodes [] s f → HasValues s q → HasValues f q
  filled-given s f q h given k d l = filled-has [] s f h _ ∙ given k d l
