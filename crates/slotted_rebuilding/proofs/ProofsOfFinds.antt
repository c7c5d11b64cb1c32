-- The proofs of what finds say, entry by entry, and of what an entry says of the classes that its sides find.
use Rattle.std.proofs.Common.{◌≡◌, ℕ, ◌<◌, List, length, subst, sym, ◌∙◌, ap, inl, inr, arith}
use Rattle.slotted_slots.specs.declared.types.AppliedId.{AppliedId}
use Rattle.slotted_theory.specs.Nameless.{DTerm}
use Rattle.slotted_model.specs.Applied.{Applied}
use Rattle.slotted_model.specs.Classes.{canonical_slots}
use Rattle.slotted_model.specs.Correspondence.{IsPartialInjection, composite, identity, turned}
use Rattle.slotted_model.specs.Find.{Entry, entry_at, find_class, find_map}
use Rattle.slotted_model.specs.ProofList.{Equation, IsOver, equation_at, turned_equation, entry_equation, find_equation}
use Rattle.slotted_model.specs.Link.{found_equation, half_found_equation}
use Rattle.slotted_model.proofs.Correspondences.PartialInjections.{composite-identity, composite-partial, identity-composite, identity-partial, turned-turned}
use Rattle.slotted_model.proofs.Finds.Dropping.{turned-identity}
use Rattle.slotted_model.proofs.Finds.Finding.{leads, find_class-follows, find_map-partial}
use Rattle.slotted_model.proofs.Finds.FindProofs.{find_equation-live, find_equation-composite}
use Rattle.slotted_proofs.specs.Equations.{Statement, Meets, to_applied}
use Rattle.slotted_proofs.specs.Entries.{statement_at, composite_entry}
use Rattle.slotted_classes.specs.Kept.{Kept, find_at, nodes_of, entries_of, proofs_of, EntersIn, HasManySlots}
use Rattle.slotted_classes.proofs.KeptLists.{equation_at-of, entry_at-of, length-nodes_of, length-proofs_of}
use Rattle.slotted_rebuilding.specs.Proving.{FindsByEntry, FindsWhole, OnlyProves, Proves, ProvesFind, ProvesBack, ProvesHalf, ProvesFound, HasLargeClassOf, HasLargeSide}
use Rattle.slotted_classes.specs.Stored.{Stored}
use Rattle.slotted_rebuilding.proofs.EnteredProofs.{nothing-proved, only-nodes, only-entries, only-stands}
use Rattle.slotted_rebuilding.proofs.EnteredProofs.{then-proves, proves-still, stored-over, stored-meet, chained_equation}
use Rattle.slotted_rebuilding.proofs.EnteredProofs.{then-chained, only-large, then-large}
use Rattle.slotted_rebuilding.proofs.LargeFinds.{found-twice, large-among}

-- the class that a find entry leads to, as the code reads it
pub next-class_of : (k : Kept) (i : ℕ) (a : AppliedId) → to_applied a ≡ ((find_at k i).class, (find_at k i).pairs) →
    a.id.0 ≡ (find_at k i).class
next-class_of k i a e = ap (λ (x : Applied). x.0) e

-- the proof of a find entry
module _ (k : Kept) (stored : Stored k) (i : ℕ) (h : i < length k.classes) (p : ℕ) (ep : p ≡ (find_at k i).proof) where
  abbrev nodes : List DTerm
  nodes = nodes_of k

  abbrev found : List Entry
  found = entries_of k

  here : i < length nodes
  here = let n : length nodes ≡ length k.classes = length-nodes_of k in omega arith

  same : (entry_at found i).proof ≡ p
  same = ap (λ (x : Entry). x.proof) (entry_at-of k i) ∙ sym ep

  proof-within : p < length k.proofs
  proof-within =
      let r : (entry_at found i).proof < length (proofs_of k) = stored.sane.sound.exact.in_range i here in
      let n : length (proofs_of k) ≡ length k.proofs = length-proofs_of k in
      let e : (entry_at found i).proof ≡ p = same in
      omega arith

  proof-says : (statement_at k.proofs p).equation ≡ entry_equation nodes found i
  proof-says = sym (equation_at-of k.proofs p) ∙ (ap (equation_at (proofs_of k)) (sym same)
      ∙ stored.sane.sound.exact.equations i here)

  -- of a live class the entry's proof is that of the find
  pub live-proves : (find_at k i).class ≡ i → ProvesFind k k i p
  live-proves e = record {
    only = nothing-proved k stored;
    in_range = proof-within;
    equation = proof-says ∙ sym (find_equation-live nodes found stored.sane.sound.linked i here
        (ap (λ (x : Entry). x.class) (entry_at-of k i) ∙ e));
  }

  -- and so where the find says what the entry says
  pub entry-proves : FindsByEntry k i → ProvesFind k k i p
  entry-proves e = record { only = nothing-proved k stored; in_range = proof-within; equation = proof-says ∙ sym e }

  -- what the next class finds this one finds
  next-finds : (j : ℕ) → j ≡ (find_at k i).class → find_class found j ≡ find_class found i
  next-finds j ej = ap (find_class found) (ej ∙ ap (λ (x : Entry). x.class) (sym (entry_at-of k i)))
      ∙ sym (find_class-follows nodes found (leads nodes found stored.sane.sound.linked) i here)

  pub next-among : (j : ℕ) → j ≡ (find_at k i).class → HasLargeClassOf k j j → HasLargeClassOf k i i
  next-among j ej = large-among k j j i i (inl (next-finds j ej)) (inl (next-finds j ej))

  -- of another it is put before that of the next class
  module _ (l : Kept) (q j : ℕ) (ej : j ≡ (find_at k i).class) (rest : ProvesFind k l j q) where
    next-stands : (p < length l.proofs) × (statement_at l.proofs p ≡ statement_at k.proofs p)
    next-stands = only-stands k l rest.only p proof-within

    pub next-first : p < length l.proofs
    next-first = next-stands.0

    next-left : (statement_at l.proofs p).equation ≡ entry_equation nodes found i
    next-left = ap (λ (s : Statement). s.equation) next-stands.1 ∙ proof-says

    next-class : (entry_at found i).class ≡ j
    next-class = ap (λ (x : Entry). x.class) (entry_at-of k i) ∙ sym ej

    pub next-meets : Meets (statement_at l.proofs p) (statement_at l.proofs q)
    next-meets = stored-meet l rest.only.stored p q next-first rest.in_range
        (ap (λ (e : Equation). e.right) next-left ∙ (next-class ∙ sym (ap (λ (e : Equation). e.left) rest.equation)))

    pub next-large : HasManySlots l p q → HasLargeClassOf k i i
    next-large many = large-among k (statement_at l.proofs p).equation.left (statement_at l.proofs q).equation.right i i
        (inl (ap (λ (e : Equation). find_class found e.left) next-left))
        (inl (ap (λ (e : Equation). find_class found e.right) rest.equation
        ∙ (ap (find_class found) (next-finds j ej) ∙ found-twice nodes found stored.sane.sound.linked i here)))
        (then-large k l rest.only p q next-first rest.in_range many)

    pub next-proves : (m : Kept) (r : ℕ) → EntersIn l m (composite_entry l.proofs p q) r → ProvesFind k m i r
    next-proves m r e =
        let first : Proves k l (entry_equation nodes found i) p =
        record { only = rest.only; in_range = next-first; equation = next-left } in
        let step = then-chained k l m (entry_equation nodes found i) (find_equation nodes found j) p q r first
        rest.in_range rest.equation next-class e in
        record {
          only = step.only;
          in_range = step.in_range;
          equation = step.equation
              ∙ ((λ t. record {
                left = i;
                right = find_class found (sym next-class t);
                pairs = composite (entry_equation nodes found i).pairs (find_equation nodes found (sym next-class t)).pairs;
              })
              ∙ (λ t. record {
                left = i;
                right = sym (find_class-follows nodes found (leads nodes found stored.sane.sound.linked) i here) t;
                pairs = sym (find_equation-composite nodes found stored.sane.sound.linked i here) t;
              }));
        }

-- slots run out where the proof of a find is turned round
pub back-large : (k l : Kept) → Stored k → (i p : ℕ) → i < length k.classes → ProvesFind k l i p → HasManySlots l p p →
    HasLargeClassOf k i i
back-large k l stored i p h find many =
    let es : List Entry = entries_of k in
    let n : length (nodes_of k) ≡ length k.classes = length-nodes_of k in
    let here : i < length (nodes_of k) = omega (arith, h, n) in
    large-among k (statement_at l.proofs p).equation.left (statement_at l.proofs p).equation.right i i
    (inl (ap (λ (e : Equation). find_class es e.left) find.equation))
    (inl (ap (λ (e : Equation). find_class es e.right) find.equation
    ∙ found-twice (nodes_of k) es stored.sane.sound.linked i here))
    (then-large k l find.only p p find.in_range find.in_range many)

-- what is proved of a find after other entries
pub still-finds : (k l m : Kept) (i p : ℕ) → OnlyProves k l → ProvesFind l m i p → ProvesFind k m i p
still-finds k l m i p only rest =
    let r : Proves k m (find_equation (nodes_of l) (entries_of l) i) p =
    then-proves k l m (find_equation (nodes_of l) (entries_of l) i) p only rest in
    record {
      only = r.only;
      in_range = r.in_range;
      equation = r.equation ∙ (λ t. find_equation (only-nodes k l only t) (only-entries k l only t) i);
    }

-- the whole way: back along the find of the left side, the entry, and the find of the right side
module _ (k : Kept) (stored : Stored k) (p : ℕ) (h : p < length k.proofs) where
  abbrev ns : List DTerm
  ns = nodes_of k

  abbrev es : List Entry
  es = entries_of k

  abbrev said : Equation
  said = (statement_at k.proofs p).equation

  pub left-within : said.left < length k.classes
  left-within =
      let n : length ns ≡ length k.classes = length-nodes_of k in
      let l : said.left < length ns = (stored-over k stored p h).left in
      omega arith

  pub right-within : said.right < length k.classes
  right-within =
      let n : length ns ≡ length k.classes = length-nodes_of k in
      let l : said.right < length ns = (stored-over k stored p h).right in
      omega arith

  -- a class on the way from either side
  pub left-large : (i : ℕ) → i ≡ said.left → HasLargeClassOf k i i → HasLargeSide k said
  left-large i ei =
      let e : find_class es i ≡ find_class es said.left = ap (find_class es) ei in
      large-among k i i said.left said.right (inl e) (inl e)

  pub right-large : (l : Kept) → OnlyProves k l → (j : ℕ) → j ≡ said.right → HasLargeClassOf l j j → HasLargeSide k said
  right-large l only j ej large =
      let e : find_class es j ≡ find_class es said.right = ap (find_class es) ej in
      large-among k j j said.left said.right (inr e) (inr e) (only-large k l only j j large)

  -- the class that the left side finds, and the right class
  abbrev half : Equation
  half = half_found_equation ns es said

  over : IsOver ns said
  over = stored-over k stored p h

  left-finds : find_class es (find_class es said.left) ≡ find_class es said.left
  left-finds = found-twice ns es stored.sane.sound.linked said.left over.left

  abbrev P : List (ℕ × ℕ)
  P = find_map es said.left

  P-partial : IsPartialInjection (canonical_slots ns (find_class es said.left)) (canonical_slots ns said.left) P
  P-partial = find_map-partial ns es (leads ns es stored.sane.sound.linked) said.left over.left

  module _ (l : Kept) (i q : ℕ) (ei : i ≡ said.left) (back : ProvesBack k l i q) where
    there : (p < length l.proofs) × (statement_at l.proofs p ≡ statement_at k.proofs p)
    there = only-stands k l back.only p h

    says : (statement_at l.proofs p).equation ≡ said
    says = ap (λ (s : Statement). s.equation) there.1

    pub half-second : p < length l.proofs
    half-second = there.0

    half-joins : (statement_at l.proofs q).equation.right ≡ (statement_at l.proofs p).equation.left
    half-joins = ap (λ (e : Equation). e.right) back.equation ∙ (ei ∙ sym (ap (λ (e : Equation). e.left) says))

    pub half-meets : Meets (statement_at l.proofs q) (statement_at l.proofs p)
    half-meets = stored-meet l back.only.stored q p back.in_range half-second half-joins

    pub half-large : HasManySlots l q p → HasLargeSide k said
    half-large many =
        large-among k (statement_at l.proofs q).equation.left (statement_at l.proofs p).equation.right said.left said.right
        (inl (ap (λ (e : Equation). find_class es e.left) back.equation ∙ (ap (λ c. find_class es (find_class es c)) ei ∙ left-finds)))
        (inr (ap (λ (e : Equation). find_class es e.right) says))
        (then-large k l back.only q p back.in_range half-second many)

    half-is : chained_equation (turned_equation ns (find_equation ns es i)) said ≡ half
    half-is =
        let straight : turned (canonical_slots ns (find_class es said.left)) (turned (canonical_slots ns said.left) P) ≡ P =
        turned-turned (canonical_slots ns (find_class es said.left)) (canonical_slots ns said.left) P P-partial in
        (λ t. chained_equation (turned_equation ns (find_equation ns es (ei t))) said)
        ∙ (λ t. record { left = find_class es said.left; right = said.right; pairs = composite (straight t) said.pairs })

    pub half-proves : (o : Kept) (s : ℕ) → EntersIn l o (composite_entry l.proofs q p) s → ProvesHalf k o p s
    half-proves o s enters =
        let step = then-chained k l o (turned_equation ns (find_equation ns es i)) said q p s back half-second says ei enters in
        record { only = step.only; in_range = step.in_range; equation = step.equation ∙ half-is }

  -- where the left side is what it finds, the entry says it
  pub half-itself : FindsWhole k said.left → ProvesHalf k k p p
  half-itself w = record {
    only = nothing-proved k stored;
    in_range = h;
    equation = λ t. record {
      left = sym w.0 t;
      right = said.right;
      pairs = sym (ap (λ m. composite m said.pairs) w.1 ∙ identity-composite (canonical_slots ns said.left) (canonical_slots ns said.right) said.pairs over.pairs) t;
    };
  }

  -- and from there along the find of the right side
  module _ (o : Kept) (s : ℕ) (first : ProvesHalf k o p s) where
    pub still-stands : p < length o.proofs
    still-stands = (only-stands k o first.only p h).0

    pub still-right : (j : ℕ) → j ≡ (statement_at o.proofs p).equation.right → j ≡ said.right
    still-right j e = e ∙ ap (λ (x : Statement). x.equation.right) (only-stands k o first.only p h).1

    whole-before : (j : ℕ) → FindsWhole o j → FindsWhole k j
    whole-before j w = (
      subst (λ (x : List Entry). find_class x j ≡ j) (only-entries k o first.only) w.0,
      subst (λ (x : List Entry). find_map x j ≡ identity (canonical_slots ns j)) (only-entries k o first.only)
          (subst (λ (x : List DTerm). find_map (entries_of o) j ≡ identity (canonical_slots x j)) (only-nodes k o first.only) w.1),
    )

    -- where the right side is what it finds nothing is left
    pub found-itself : (j : ℕ) → j ≡ said.right → FindsWhole o j → ProvesFound k o p s
    found-itself j ej whole =
        let w : FindsWhole k said.right = subst (FindsWhole k) ej (whole-before j whole) in
        let C : List ℕ = canonical_slots ns said.right in
        let partial : IsPartialInjection (canonical_slots ns (find_class es said.left)) C half.pairs =
        composite-partial (canonical_slots ns (find_class es said.left)) (canonical_slots ns said.left) C P said.pairs P-partial over.pairs in
        let pairs : composite half.pairs (turned C (find_map es said.right)) ≡ half.pairs =
        ap (λ m. composite half.pairs (turned C m)) w.1 ∙ (ap (composite half.pairs) (turned-identity C C (identity-partial C))
        ∙ composite-identity (canonical_slots ns (find_class es said.left)) C half.pairs partial) in
        record {
          only = first.only;
          in_range = first.in_range;
          equation = first.equation
              ∙ (sym (λ t. record { left = find_class es said.left; right = w.0 t; pairs = pairs t }) ∙ ap (found_equation ns es) (sym (equation_at-of k.proofs p)));
        }

    module _ (m : Kept) (j r : ℕ) (ej : j ≡ said.right) (onward : ProvesFind o m j r) where
      onward-still : ProvesFind k m j r
      onward-still = still-finds k o m j r first.only onward

      half-still : Proves k m half s
      half-still = proves-still k o m half s first onward.only

      pub whole-first : s < length m.proofs
      whole-first = half-still.in_range

      pub whole-meets : Meets (statement_at m.proofs s) (statement_at m.proofs r)
      whole-meets = stored-meet m half-still.only.stored s r whole-first onward-still.in_range
          (ap (λ (e : Equation). e.right) half-still.equation ∙ (sym ej ∙ sym (ap (λ (e : Equation). e.left) onward-still.equation)))

      pub whole-large : HasManySlots m s r → HasLargeSide k said
      whole-large many =
          large-among k (statement_at m.proofs s).equation.left (statement_at m.proofs r).equation.right said.left said.right
          (inl (ap (λ (e : Equation). find_class es e.left) half-still.equation ∙ left-finds))
          (inr (ap (λ (e : Equation). find_class es e.right) onward-still.equation
          ∙ (ap (λ c. find_class es (find_class es c)) ej ∙ found-twice ns es stored.sane.sound.linked said.right over.right)))
          (then-large k m half-still.only s r whole-first onward-still.in_range many)

      pub whole-proves : (w : Kept) (z : ℕ) → EntersIn m w (composite_entry m.proofs s r) z → ProvesFound k w p z
      whole-proves w z e =
          let step = then-chained k m w half (find_equation ns es j) s r z half-still onward-still.in_range onward-still.equation (sym ej) e in
          record {
            only = step.only;
            in_range = step.in_range;
            equation = step.equation ∙ ((λ t. chained_equation half (find_equation ns es (ej t))) ∙ ap (found_equation ns es) (sym (equation_at-of k.proofs p)));
          }
