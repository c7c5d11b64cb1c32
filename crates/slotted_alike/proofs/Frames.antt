-- Two nodes side by side: they are alike but for their children exactly if their outlines are, and their children match.
use Rattle.std.proofs.Common.{◌≡◌, ℕ, zero, suc, ◌<◌, ◌+◌, List, [], ◌∷◌, ◌++◌, length, take, drop, refl, slice_index, slice_index_or, ap, ◌∙◌, sym, subst, inl, inr, arith, length-append}
use Rattle.std.specs.Prelude.{map, All, ◌⊎◌}
use Rattle.std.specs.List.{zip}
use Rattle.slotted_lists.proofs.Contained.{append_parts}
use Rattle.slotted_lists.proofs.Lists.{take-append, drop-append}
use Rattle.slotted_lists.proofs.Maps.{zip-with_values, IsInjectiveMap-before}
use Rattle.slotted_theory.specs.FiniteMaps.{IsInjectiveMap, with_values}
use Rattle.slotted_theory.specs.Nameless.{nameless_args}
use Rattle.slotted_theory.specs.Shape.{number_in}
use Rattle.slotted_nodes.specs.Form.{Form, Tree, leaf, own, child, bind, scopes, children}
use Rattle.slotted_languages.specs.NodeTerm.{node_args, nameless_node}
use Rattle.slotted_languages.specs.NodeTerm as node
use Rattle.slotted_languages.specs.Outline.{outlined, outlined_names}
use Rattle.slotted_languages.proofs.Outlines.{length_children-outlined, length-outlined_names, outlined-outlined}
use Rattle.slotted_model.specs.Applied.{Applied, own_names, applied_of}
use Rattle.slotted_proofs.specs.declared.equation.Equation.{Equation as Sides}
use Rattle.slotted_proofs.specs.AlikeNodes.{AreAlikeArgs}
use Rattle.slotted_proofs.specs.Equations.{to_applied}
use Rattle.slotted_proofs.specs.Steps.{HasInjectiveSides, Matches}
use Rattle.slotted_outlines.specs.Seen.{owns, stacks, above, owns_seen, AreAlike, AreOutlines}
use Rattle.slotted_alike.specs.Frames.{under, AreAlikeForms}
use Rattle.slotted_classes.specs.ChildIds.{ids_in, child_ids}
use Rattle.slotted_classes.proofs.ChildIds.{length-ids}

-- at each place of a node's outline the number of an own name, one more, and 0 at children and binders
abbrev owns_of : List ℕ → Tree → List ℕ → List ℕ
owns_of bs leaf xs = []
owns_of bs (own r) xs = suc (number_in bs (slice_index xs 0)) ∷ owns_of bs r (drop 1 xs)
owns_of bs (child i ks r) xs = 0 ∷ owns_of bs r (drop (length ks) xs)
owns_of bs (bind u r) xs = 0 ∷ owns_of (slice_index xs 0 ∷ bs) u (take (length (scopes u)) (drop 1 xs)) ++ owns_of bs r (drop (length (scopes u)) (drop 1 xs))

-- for each child the binders above it
abbrev pub stacks_of : List ℕ → Tree → List ℕ → List (List ℕ)
stacks_of bs leaf xs = []
stacks_of bs (own r) xs = stacks_of bs r (drop 1 xs)
stacks_of bs (child i ks r) xs = bs ∷ stacks_of bs r (drop (length ks) xs)
stacks_of bs (bind u r) xs = stacks_of (slice_index xs 0 ∷ bs) u (take (length (scopes u)) (drop 1 xs)) ++ stacks_of bs r (drop (length (scopes u)) (drop 1 xs))

-- the children below their binders
abbrev pub ids_under : List ℕ → Tree → List ℕ → List Applied
ids_under bs leaf xs = []
ids_under bs (own r) xs = ids_under bs r (drop 1 xs)
ids_under bs (child i ks r) xs = (i, zip ks (map (number_in bs) (take (length ks) xs))) ∷ ids_under bs r (drop (length ks) xs)
ids_under bs (bind u r) xs = ids_under (slice_index xs 0 ∷ bs) u (take (length (scopes u)) (drop 1 xs)) ++ ids_under bs r (drop (length (scopes u)) (drop 1 xs))

-- the nodes agree but for their children
abbrev pub AreTwins : List ℕ → List ℕ → Tree → Tree → List ℕ → List ℕ → Type 0
AreTwins bs cs leaf leaf xs ys = Unit {0}
AreTwins bs cs (own u) (own v) xs ys = (number_in bs (slice_index xs 0) ≡ number_in cs (slice_index ys 0)) × AreTwins bs cs u v (drop 1 xs) (drop 1 ys)
AreTwins bs cs (child i ks u) (child j ls v) xs ys = AreTwins bs cs u v (drop (length ks) xs) (drop (length ls) ys)
AreTwins bs cs (bind u r) (bind v s) xs ys =
    AreTwins (slice_index xs 0 ∷ bs) (slice_index ys 0 ∷ cs) u v (take (length (scopes u)) (drop 1 xs)) (take (length (scopes v)) (drop 1 ys))
    × AreTwins bs cs r s (drop (length (scopes u)) (drop 1 xs)) (drop (length (scopes v)) (drop 1 ys))
AreTwins bs cs u v xs ys = ⊥

-- ids in turn match equations in turn
abbrev pub MatchInTurn : List Applied → List Applied → List Sides → Type 0
MatchInTurn [] [] [] = Unit {0}
MatchInTurn (a ∷ ids) (b ∷ bs) (c ∷ cs) = Matches a b (to_applied c.l) (to_applied c.r) × MatchInTurn ids bs cs
MatchInTurn ids bs cs = ⊥

-- the numbers of a row of own names
names_numbered : (ρ : ℕ → ℕ) (xs : List ℕ) → own_names (nameless_args ρ (node.own_names xs)) ≡ map ρ xs
names_numbered ρ [] = refl
names_numbered ρ (x ∷ xs) = ap (λ r. ρ x ∷ r) (names_numbered ρ xs)

atom : (ρ : ℕ → ℕ) (i : ℕ) (ks xs : List ℕ) → applied_of ((i ∷ ks) ∷ []) (nameless_args ρ (node.own_names xs)) ≡ (i, zip ks (map ρ xs))
atom ρ i ks xs = ap (λ ns. (i, zip ks ns)) (names_numbered ρ xs)

-- rows that match in turn, one after another
match_append : (ids ids' bs bs' : List Applied) (cs cs' : List Sides) → MatchInTurn ids bs cs → MatchInTurn ids' bs' cs' → MatchInTurn (ids ++ ids') (bs ++ bs') (cs ++ cs')
match_append [] ids' [] bs' [] cs' h k = k
match_append (a ∷ ids) ids' (b ∷ bs) bs' (c ∷ cs) cs' h k = (h.0, match_append ids ids' bs bs' cs cs' h.1 k)
match_append ids ids' bs bs' cs cs' h k = absurd h

match_split : (ids ids' bs bs' : List Applied) (cs : List Sides) → length ids ≡ length bs → MatchInTurn (ids ++ ids') (bs ++ bs') cs → (ds : List Sides) × (es : List Sides) × (cs ≡ ds ++ es) × MatchInTurn ids bs ds × MatchInTurn ids' bs' es
match_split [] ids' [] bs' cs n h = ([], cs, refl, tt, h)
match_split [] ids' (b ∷ bs) bs' cs n h = absurd (omega arith)
match_split (a ∷ ids) ids' [] bs' cs n h = absurd (omega arith)
match_split (a ∷ ids) ids' (b ∷ bs) bs' [] n h = absurd h
match_split (a ∷ ids) ids' (b ∷ bs) bs' (c ∷ cs) n h =
    let r = match_split ids ids' bs bs' cs (omega arith) h.1 in
    (c ∷ r.0, r.1, ap (λ l. c ∷ l) r.2, (h.0, r.3), r.4)

twins_count : (bs cs : List ℕ) (u v : Tree) (xs ys : List ℕ) → AreTwins bs cs u v xs ys → length (ids_under bs u xs) ≡ length (ids_under cs v ys)
twins_count bs cs leaf leaf xs ys h = refl
twins_count bs cs (own u) (own v) xs ys h = twins_count bs cs u v (drop 1 xs) (drop 1 ys) h.1
twins_count bs cs (child i ks u) (child j ls v) xs ys h = ap suc (twins_count bs cs u v (drop (length ks) xs) (drop (length ls) ys) h)
twins_count bs cs (bind u r) (bind v s) xs ys h =
    let a = ids_under (slice_index xs 0 ∷ bs) u (take (length (scopes u)) (drop 1 xs)) in
    let b = ids_under (slice_index ys 0 ∷ cs) v (take (length (scopes v)) (drop 1 ys)) in
    let a' = ids_under bs r (drop (length (scopes u)) (drop 1 xs)) in
    let b' = ids_under cs s (drop (length (scopes v)) (drop 1 ys)) in
    let p : length a ≡ length b = twins_count (slice_index xs 0 ∷ bs) (slice_index ys 0 ∷ cs) u v (take (length (scopes u)) (drop 1 xs)) (take (length (scopes v)) (drop 1 ys)) h.0 in
    let q : length a' ≡ length b' = twins_count bs cs r s (drop (length (scopes u)) (drop 1 xs)) (drop (length (scopes v)) (drop 1 ys)) h.1 in
    omega (arith, length-append a a', length-append b b')
twins_count bs cs u v xs ys h = absurd h

-- twins whose children match are alike but for their children
pub twins_alike : (bs cs : List ℕ) (u v : Tree) (xs ys : List ℕ) (es : List Sides) → AreTwins bs cs u v xs ys → MatchInTurn (ids_under bs u xs) (ids_under cs v ys) es → AreAlikeArgs (nameless_args (number_in bs) (node_args u xs)) (nameless_args (number_in cs) (node_args v ys)) es
twins_alike bs cs leaf leaf xs ys [] h k = tt
twins_alike bs cs leaf leaf xs ys (e ∷ es) h k = absurd k
twins_alike bs cs (own u) (own v) xs ys es h k = (h.0, twins_alike bs cs u v (drop 1 xs) (drop 1 ys) es h.1 k)
twins_alike bs cs (child i ks u) (child j ls v) xs ys [] h k = absurd k
twins_alike bs cs (child i ks u) (child j ls v) xs ys (e ∷ es) h k = (
  subst (λ a. Matches a (applied_of ((j ∷ ls) ∷ []) (nameless_args (number_in cs) (node.own_names (take (length ls) ys)))) (to_applied e.l) (to_applied e.r)) (sym (atom (number_in bs) i ks (take (length ks) xs)))
      (subst (λ b. Matches (i, zip ks (map (number_in bs) (take (length ks) xs))) b (to_applied e.l) (to_applied e.r)) (sym (atom (number_in cs) j ls (take (length ls) ys))) k.0),
  twins_alike bs cs u v (drop (length ks) xs) (drop (length ls) ys) es h k.1,
)
twins_alike bs cs (bind u r) (bind v s) xs ys es h k =
    let a = ids_under (slice_index xs 0 ∷ bs) u (take (length (scopes u)) (drop 1 xs)) in
    let b = ids_under (slice_index ys 0 ∷ cs) v (take (length (scopes v)) (drop 1 ys)) in
    let a' = ids_under bs r (drop (length (scopes u)) (drop 1 xs)) in
    let b' = ids_under cs s (drop (length (scopes v)) (drop 1 ys)) in
    let p = match_split a a' b b' es (twins_count (slice_index xs 0 ∷ bs) (slice_index ys 0 ∷ cs) u v (take (length (scopes u)) (drop 1 xs)) (take (length (scopes v)) (drop 1 ys)) h.0) k in (
      p.0,
      p.1,
      p.2,
      twins_alike (slice_index xs 0 ∷ bs) (slice_index ys 0 ∷ cs) u v (take (length (scopes u)) (drop 1 xs)) (take (length (scopes v)) (drop 1 ys)) p.0 h.0 p.3,
      twins_alike bs cs r s (drop (length (scopes u)) (drop 1 xs)) (drop (length (scopes v)) (drop 1 ys)) p.1 h.1 p.4,
    )
twins_alike bs cs u v xs ys es h k = absurd h

-- and the other way round
pub alike_twins : (bs cs : List ℕ) (u v : Tree) (xs ys : List ℕ) (es : List Sides) → AreAlikeArgs (nameless_args (number_in bs) (node_args u xs)) (nameless_args (number_in cs) (node_args v ys)) es → AreTwins bs cs u v xs ys × MatchInTurn (ids_under bs u xs) (ids_under cs v ys) es
alike_twins bs cs leaf leaf xs ys [] h = (tt, tt)
alike_twins bs cs leaf leaf xs ys (e ∷ es) h = absurd h
alike_twins bs cs (own u) (own v) xs ys es h = let r = alike_twins bs cs u v (drop 1 xs) (drop 1 ys) es h.1 in ((h.0, r.0), r.1)
alike_twins bs cs (child i ks u) (child j ls v) xs ys [] h = absurd h
alike_twins bs cs (child i ks u) (child j ls v) xs ys (e ∷ es) h =
    let r = alike_twins bs cs u v (drop (length ks) xs) (drop (length ls) ys) es h.1 in (
      r.0,
      (
        subst (λ a. Matches a (j, zip ls (map (number_in cs) (take (length ls) ys))) (to_applied e.l) (to_applied e.r)) (atom (number_in bs) i ks (take (length ks) xs))
            (subst (λ b. Matches (applied_of ((i ∷ ks) ∷ []) (nameless_args (number_in bs) (node.own_names (take (length ks) xs)))) b (to_applied e.l) (to_applied e.r)) (atom (number_in cs) j ls (take (length ls) ys)) h.0),
        r.1,
      ),
    )
alike_twins bs cs (bind u r) (bind v s) xs ys es h =
    let a = ids_under (slice_index xs 0 ∷ bs) u (take (length (scopes u)) (drop 1 xs)) in
    let b = ids_under (slice_index ys 0 ∷ cs) v (take (length (scopes v)) (drop 1 ys)) in
    let a' = ids_under bs r (drop (length (scopes u)) (drop 1 xs)) in
    let b' = ids_under cs s (drop (length (scopes v)) (drop 1 ys)) in
    let inner = alike_twins (slice_index xs 0 ∷ bs) (slice_index ys 0 ∷ cs) u v (take (length (scopes u)) (drop 1 xs)) (take (length (scopes v)) (drop 1 ys)) h.0 h.3 in
    let rest = alike_twins bs cs r s (drop (length (scopes u)) (drop 1 xs)) (drop (length (scopes v)) (drop 1 ys)) h.1 h.4 in
    ((inner.0, rest.0), subst (MatchInTurn (a ++ a') (b ++ b')) (sym h.2) (match_append a a' b b' h.0 h.1 inner.1 rest.1))
alike_twins bs cs u v xs ys es h = absurd h

-- by outlines

pub owns-outlined : (bs : List ℕ) (u : Tree) (xs : List ℕ) → owns bs (outlined u) (outlined_names 0 u xs) ≡ owns_of bs u xs
owns-outlined bs leaf xs = refl
owns-outlined bs (own r) xs = ap (λ l. suc (number_in bs (slice_index xs 0)) ∷ l) (owns-outlined bs r (drop 1 xs))
owns-outlined bs (child i ks r) xs = ap (λ l. 0 ∷ l) (owns-outlined bs r (drop (length ks) xs))
owns-outlined bs (bind u r) xs =
    let n = length (scopes u) in
    let us = outlined_names 0 u (take n (drop 1 xs)) in
    let rs = outlined_names 0 r (drop n (drop 1 xs)) in
    let l : length us ≡ length (scopes (outlined (outlined u))) = length-outlined_names 0 u (take n (drop 1 xs)) ∙ sym (ap (λ t. length (scopes t)) (outlined-outlined u)) in
    (λ i. 0 ∷ owns (slice_index xs 0 ∷ bs) (outlined u) (take-append us rs (length (scopes (outlined (outlined u)))) l i) ++ owns bs (outlined r) (drop-append us rs (length (scopes (outlined (outlined u)))) l i))
    ∙ (λ i. 0 ∷ owns-outlined (slice_index xs 0 ∷ bs) u (take n (drop 1 xs)) i ++ owns-outlined bs r (drop n (drop 1 xs)) i)

pub stacks-outlined : (bs : List ℕ) (u : Tree) (xs : List ℕ) → stacks bs (outlined u) (outlined_names 0 u xs) ≡ stacks_of bs u xs
stacks-outlined bs leaf xs = refl
stacks-outlined bs (own r) xs = stacks-outlined bs r (drop 1 xs)
stacks-outlined bs (child i ks r) xs = ap (λ l. bs ∷ l) (stacks-outlined bs r (drop (length ks) xs))
stacks-outlined bs (bind u r) xs =
    let n = length (scopes u) in
    let us = outlined_names 0 u (take n (drop 1 xs)) in
    let rs = outlined_names 0 r (drop n (drop 1 xs)) in
    let l : length us ≡ length (scopes (outlined (outlined u))) = length-outlined_names 0 u (take n (drop 1 xs)) ∙ sym (ap (λ t. length (scopes t)) (outlined-outlined u)) in
    (λ i. stacks (slice_index xs 0 ∷ bs) (outlined u) (take-append us rs (length (scopes (outlined (outlined u)))) l i) ++ stacks bs (outlined r) (drop-append us rs (length (scopes (outlined (outlined u)))) l i))
    ∙ (λ i. stacks-outlined (slice_index xs 0 ∷ bs) u (take n (drop 1 xs)) i ++ stacks-outlined bs r (drop n (drop 1 xs)) i)

length-owns_of : (bs cs : List ℕ) (u v : Tree) (xs ys : List ℕ) → outlined u ≡ outlined v → length (owns_of bs u xs) ≡ length (owns_of cs v ys)
length-owns_of bs cs u v xs ys e = count bs u xs ∙ (ap (λ t. length (scopes t)) e ∙ sym (count cs v ys))
  where
    count : (bs : List ℕ) (u : Tree) (xs : List ℕ) → length (owns_of bs u xs) ≡ length (scopes (outlined u))
    count bs leaf xs = refl
    count bs (own r) xs = ap suc (count bs r (drop 1 xs))
    count bs (child i ks r) xs = ap suc (count bs r (drop (length ks) xs))
    count bs (bind u r) xs =
        let us = owns_of (slice_index xs 0 ∷ bs) u (take (length (scopes u)) (drop 1 xs)) in
        let rs = owns_of bs r (drop (length (scopes u)) (drop 1 xs)) in
        omega (arith, length-append us rs, length-append (scopes (outlined u)) (scopes (outlined r)), count (slice_index xs 0 ∷ bs) u (take (length (scopes u)) (drop 1 xs)), count bs r (drop (length (scopes u)) (drop 1 xs)))

-- twins have one outline with the same own names, and so have no other nodes
pub owns_twins : (bs cs : List ℕ) (u v : Tree) (xs ys : List ℕ) → outlined u ≡ outlined v → owns_of bs u xs ≡ owns_of cs v ys → AreTwins bs cs u v xs ys
owns_twins bs cs leaf leaf xs ys e h = tt
owns_twins bs cs leaf (own v) xs ys e h = cc
owns_twins bs cs leaf (child j ls v) xs ys e h = cc
owns_twins bs cs leaf (bind v s) xs ys e h = cc
owns_twins bs cs (own u) leaf xs ys e h = cc
owns_twins bs cs (own u) (own v) xs ys e h =
    let t : outlined u ≡ outlined v = cc in
    let n : number_in bs (slice_index xs 0) ≡ number_in cs (slice_index ys 0) = cc in
    let q : owns_of bs u (drop 1 xs) ≡ owns_of cs v (drop 1 ys) = cc in
    (n, owns_twins bs cs u v (drop 1 xs) (drop 1 ys) t q)
owns_twins bs cs (own u) (child j ls v) xs ys e h = cc
owns_twins bs cs (own u) (bind v s) xs ys e h = cc
owns_twins bs cs (child i ks u) leaf xs ys e h = cc
owns_twins bs cs (child i ks u) (own v) xs ys e h = cc
owns_twins bs cs (child i ks u) (child j ls v) xs ys e h =
    let t : outlined u ≡ outlined v = cc in
    let q : owns_of bs u (drop (length ks) xs) ≡ owns_of cs v (drop (length ls) ys) = cc in
    owns_twins bs cs u v (drop (length ks) xs) (drop (length ls) ys) t q
owns_twins bs cs (child i ks u) (bind v s) xs ys e h = cc
owns_twins bs cs (bind u r) leaf xs ys e h = cc
owns_twins bs cs (bind u r) (own v) xs ys e h = cc
owns_twins bs cs (bind u r) (child j ls v) xs ys e h = cc
owns_twins bs cs (bind u r) (bind v s) xs ys e h =
    let a = owns_of (slice_index xs 0 ∷ bs) u (take (length (scopes u)) (drop 1 xs)) in
    let b = owns_of (slice_index ys 0 ∷ cs) v (take (length (scopes v)) (drop 1 ys)) in
    let a' = owns_of bs r (drop (length (scopes u)) (drop 1 xs)) in
    let b' = owns_of cs s (drop (length (scopes v)) (drop 1 ys)) in
    let t : outlined u ≡ outlined v = cc in
    let w : outlined r ≡ outlined s = cc in
    let q : a ++ a' ≡ b ++ b' = cc in
    let p = append_parts a b a' b' (length-owns_of (slice_index xs 0 ∷ bs) (slice_index ys 0 ∷ cs) u v (take (length (scopes u)) (drop 1 xs)) (take (length (scopes v)) (drop 1 ys)) t) q in (
      owns_twins (slice_index xs 0 ∷ bs) (slice_index ys 0 ∷ cs) u v (take (length (scopes u)) (drop 1 xs)) (take (length (scopes v)) (drop 1 ys)) t p.0,
      owns_twins bs cs r s (drop (length (scopes u)) (drop 1 xs)) (drop (length (scopes v)) (drop 1 ys)) w p.1,
    )

pub twins_owns : (bs cs : List ℕ) (u v : Tree) (xs ys : List ℕ) → AreTwins bs cs u v xs ys → (outlined u ≡ outlined v) × (owns_of bs u xs ≡ owns_of cs v ys)
twins_owns bs cs leaf leaf xs ys h = (refl, refl)
twins_owns bs cs (own u) (own v) xs ys h = let r = twins_owns bs cs u v (drop 1 xs) (drop 1 ys) h.1 in (ap own r.0, λ i. suc (h.0 i) ∷ r.1 i)
twins_owns bs cs (child j ks u) (child k ls v) xs ys h = let r = twins_owns bs cs u v (drop (length ks) xs) (drop (length ls) ys) h in (ap (child 0 (0 ∷ [])) r.0, λ i. 0 ∷ r.1 i)
twins_owns bs cs (bind u r) (bind v s) xs ys h =
    let p = twins_owns (slice_index xs 0 ∷ bs) (slice_index ys 0 ∷ cs) u v (take (length (scopes u)) (drop 1 xs)) (take (length (scopes v)) (drop 1 ys)) h.0 in
    let q = twins_owns bs cs r s (drop (length (scopes u)) (drop 1 xs)) (drop (length (scopes v)) (drop 1 ys)) h.1 in
    (λ i. bind (p.0 i) (q.0 i), λ i. 0 ∷ p.1 i ++ q.1 i)
twins_owns bs cs u v xs ys h = absurd h

-- the child k below its binders

-- each id below its own binders
abbrev each_under : List (List ℕ) → List Applied → List Applied
each_under [] ids = []
each_under (s ∷ ss) [] = []
each_under (s ∷ ss) (a ∷ ids) = under s a ∷ each_under ss ids

each-append : (ss rs : List (List ℕ)) (ids bs : List Applied) → length ss ≡ length ids → each_under (ss ++ rs) (ids ++ bs) ≡ each_under ss ids ++ each_under rs bs
each-append [] rs [] bs e = refl
each-append [] rs (a ∷ ids) bs e = absurd (omega arith)
each-append (s ∷ ss) rs [] bs e = absurd (omega arith)
each-append (s ∷ ss) rs (a ∷ ids) bs e = ap (λ r. under s a ∷ r) (each-append ss rs ids bs (omega arith))

length-stacks_of : (bs : List ℕ) (u : Tree) (xs : List ℕ) → length (stacks_of bs u xs) ≡ length (ids_in u xs)
length-stacks_of bs leaf xs = refl
length-stacks_of bs (own r) xs = length-stacks_of bs r (drop 1 xs)
length-stacks_of bs (child i ks r) xs = ap suc (length-stacks_of bs r (drop (length ks) xs))
length-stacks_of bs (bind u r) xs =
    let a = stacks_of (slice_index xs 0 ∷ bs) u (take (length (scopes u)) (drop 1 xs)) in
    let a' = stacks_of bs r (drop (length (scopes u)) (drop 1 xs)) in
    let b = ids_in u (take (length (scopes u)) (drop 1 xs)) in
    let b' = ids_in r (drop (length (scopes u)) (drop 1 xs)) in
    omega (arith, length-append a a', length-append b b', length-stacks_of (slice_index xs 0 ∷ bs) u (take (length (scopes u)) (drop 1 xs)), length-stacks_of bs r (drop (length (scopes u)) (drop 1 xs)))

ids_under-each : (bs : List ℕ) (u : Tree) (xs : List ℕ) → ids_under bs u xs ≡ each_under (stacks_of bs u xs) (ids_in u xs)
ids_under-each bs leaf xs = refl
ids_under-each bs (own r) xs = ids_under-each bs r (drop 1 xs)
ids_under-each bs (child i ks r) xs = λ j. (i, zip-with_values (number_in bs) ks (take (length ks) xs) j) ∷ ids_under-each bs r (drop (length ks) xs) j
ids_under-each bs (bind u r) xs =
    let a = stacks_of (slice_index xs 0 ∷ bs) u (take (length (scopes u)) (drop 1 xs)) in
    let a' = stacks_of bs r (drop (length (scopes u)) (drop 1 xs)) in
    let b = ids_in u (take (length (scopes u)) (drop 1 xs)) in
    let b' = ids_in r (drop (length (scopes u)) (drop 1 xs)) in
    (λ j. ids_under-each (slice_index xs 0 ∷ bs) u (take (length (scopes u)) (drop 1 xs)) j ++ ids_under-each bs r (drop (length (scopes u)) (drop 1 xs)) j)
    ∙ sym (each-append a a' b b' (length-stacks_of (slice_index xs 0 ∷ bs) u (take (length (scopes u)) (drop 1 xs))))

each_at : (ss : List (List ℕ)) (ids : List Applied) (k : ℕ) (s : List ℕ) (d a : Applied) → length ss ≡ length ids → k < length ids → slice_index_or (each_under ss ids) k d ≡ under (slice_index_or ss k s) (slice_index_or ids k a)
each_at [] [] k s d a e l = absurd (omega arith)
each_at [] (b ∷ ids) k s d a e l = absurd (omega arith)
each_at (r ∷ ss) [] k s d a e l = absurd (omega arith)
each_at (r ∷ ss) (b ∷ ids) zero s d a e l = refl
each_at (r ∷ ss) (b ∷ ids) (suc k) s d a e l = each_at ss ids k s d a (omega arith) (omega arith)

pub length-ids_under : (bs : List ℕ) (u : Tree) (xs : List ℕ) → length (ids_under bs u xs) ≡ length (ids_in u xs)
length-ids_under bs u xs = ap length (ids_under-each bs u xs) ∙ count (stacks_of bs u xs) (ids_in u xs) (length-stacks_of bs u xs)
  where
    count : (ss : List (List ℕ)) (ids : List Applied) → length ss ≡ length ids → length (each_under ss ids) ≡ length ids
    count [] [] e = refl
    count [] (a ∷ ids) e = absurd (omega arith)
    count (s ∷ ss) [] e = absurd (omega arith)
    count (s ∷ ss) (a ∷ ids) e = ap suc (count ss ids (omega arith))

pub id_under-at : (bs : List ℕ) (u : Tree) (xs : List ℕ) (k : ℕ) (s : List ℕ) (d a : Applied) → k < length (ids_in u xs) → slice_index_or (ids_under bs u xs) k d ≡ under (slice_index_or (stacks bs (outlined u) (outlined_names 0 u xs)) k s) (slice_index_or (ids_in u xs) k a)
id_under-at bs u xs k s d a l =
    ap (λ ids. slice_index_or ids k d) (ids_under-each bs u xs)
    ∙ (each_at (stacks_of bs u xs) (ids_in u xs) k s d a (length-stacks_of bs u xs) l
    ∙ ap (λ ss. under (slice_index_or ss k s) (slice_index_or (ids_in u xs) k a)) (sym (stacks-outlined bs u xs)))

-- what the code keeps: the first k children match

pub record FirstMatch (ids bs : List Applied) (cs : List Sides) (k : ℕ) : Type 0 where
  pub count : length cs ≡ k
  pub each : (j : ℕ) (d e : Applied) (c : Sides) → j < k → Matches (slice_index_or ids j d) (slice_index_or bs j e) (to_applied (slice_index_or cs j c).l) (to_applied (slice_index_or cs j c).r)

pub all_match : (ids bs : List Applied) (cs : List Sides) → length ids ≡ length cs → length bs ≡ length cs → ((j : ℕ) (d e : Applied) (c : Sides) → j < length cs → Matches (slice_index_or ids j d) (slice_index_or bs j e) (to_applied (slice_index_or cs j c).l) (to_applied (slice_index_or cs j c).r)) → MatchInTurn ids bs cs
all_match [] [] [] m n h = tt
all_match [] [] (c ∷ cs) m n h = absurd (omega arith)
all_match [] (b ∷ bs) [] m n h = absurd (omega arith)
all_match [] (b ∷ bs) (c ∷ cs) m n h = absurd (omega arith)
all_match (a ∷ ids) [] [] m n h = absurd (omega arith)
all_match (a ∷ ids) [] (c ∷ cs) m n h = absurd (omega arith)
all_match (a ∷ ids) (b ∷ bs) [] m n h = absurd (omega arith)
all_match (a ∷ ids) (b ∷ bs) (c ∷ cs) m n h = (h 0 a b c (omega arith), all_match ids bs cs (omega arith) (omega arith) (λ j d e c' l. h (suc j) d e c' (omega arith)))

pub match_at : (ids bs : List Applied) (cs : List Sides) → MatchInTurn ids bs cs → (k : ℕ) (d e : Applied) (c : Sides) → k < length ids → (k < length cs) × Matches (slice_index_or ids k d) (slice_index_or bs k e) (to_applied (slice_index_or cs k c).l) (to_applied (slice_index_or cs k c).r)
match_at [] [] [] h k d e c l = absurd (omega arith)
match_at (a ∷ ids) (b ∷ bs) (x ∷ cs) h zero d e c l = (omega arith, h.0)
match_at (a ∷ ids) (b ∷ bs) (x ∷ cs) h (suc k) d e c l = let r = match_at ids bs cs h.1 k d e c (omega arith) in (let m : k < length cs = r.0 in omega arith, r.1)
match_at ids bs cs h k d e c l = absurd h

-- one more child
pub first_match-more : (ids bs : List Applied) (cs : List Sides) (k : ℕ) (c : Sides) → FirstMatch ids bs cs k → ((d e : Applied) → Matches (slice_index_or ids k d) (slice_index_or bs k e) (to_applied c.l) (to_applied c.r)) → FirstMatch ids bs (cs ++ c ∷ []) (k + 1)
first_match-more ids bs cs k c h m = record {
  count = let n : length cs ≡ k = h.count in omega (arith, length-append cs (c ∷ []));
  each = λ j d e x l. let n : length cs ≡ k = h.count in elim (lt_or_is j k (omega arith)) [
    | inl s ↦ subst (λ (y : Sides). Matches (slice_index_or ids j d) (slice_index_or bs j e) (to_applied y.l) (to_applied y.r)) (sym (before cs c j x (omega arith))) (h.each j d e x s)
    | inr s ↦ subst (λ (y : Sides). Matches (slice_index_or ids j d) (slice_index_or bs j e) (to_applied y.l) (to_applied y.r)) (sym (last cs c j x (omega arith))) (subst (λ i. Matches (slice_index_or ids i d) (slice_index_or bs i e) (to_applied c.l) (to_applied c.r)) (sym s) (m d e))
  ];
}
  where
    lt_or_is : (j k : ℕ) → j < suc k → (j < k) ⊎ (j ≡ k)
    lt_or_is zero zero l = inr refl
    lt_or_is zero (suc k) l = inl (omega arith)
    lt_or_is (suc j) zero l = absurd (omega arith)
    lt_or_is (suc j) (suc k) l = elim (lt_or_is j k (omega arith)) [
      | inl s ↦ inl (omega arith)
      | inr s ↦ inr (ap suc s)
    ]

    before : (cs : List Sides) (c : Sides) (j : ℕ) (x : Sides) → j < length cs → slice_index_or (cs ++ c ∷ []) j x ≡ slice_index_or cs j x
    before [] c j x l = absurd (omega arith)
    before (y ∷ cs) c zero x l = refl
    before (y ∷ cs) c (suc j) x l = before cs c j x (omega arith)

    last : (cs : List Sides) (c : Sides) (j : ℕ) (x : Sides) → j ≡ length cs → slice_index_or (cs ++ c ∷ []) j x ≡ c
    last [] c zero x l = refl
    last [] c (suc j) x l = absurd (omega arith)
    last (y ∷ cs) c zero x l = absurd (omega arith)
    last (y ∷ cs) c (suc j) x l = last cs c j x (omega arith)

-- nodes that are alike but for their children

pub forms_twins : (f g : Form) (cs : List Sides) → AreAlikeForms f g cs → AreTwins [] [] f.tree g.tree f.names g.names × MatchInTurn (ids_under [] f.tree f.names) (ids_under [] g.tree g.names) cs
forms_twins f g cs h = alike_twins [] [] f.tree g.tree f.names g.names cs h.args

pub forms_alike : (f g : Form) (cs : List Sides) → AreAlikeForms f g cs → AreAlike f g
forms_alike f g cs h = record { operator = h.operators; payloads = h.payloads; tree = (twins_owns [] [] f.tree g.tree f.names g.names (forms_twins f g cs h).0).0 }

module _ (f g p q : Form) (o : AreOutlines f g p q) where
  left_owns : owns_seen p [] ≡ owns_of [] f.tree f.names
  left_owns = ap (λ (h : Form). owns [] h.tree h.names) o.left ∙ owns-outlined [] f.tree f.names

  right_owns : owns_seen q [] ≡ owns_of [] g.tree g.names
  right_owns = ap (λ (h : Form). owns [] h.tree h.names) o.right ∙ owns-outlined [] g.tree g.names

  pub forms_owns : (cs : List Sides) → AreAlikeForms f g cs → owns_seen p [] ≡ owns_seen q []
  forms_owns cs h = left_owns ∙ ((twins_owns [] [] f.tree g.tree f.names g.names (forms_twins f g cs h).0).1 ∙ sym right_owns)

  pub same_count : length (children f.tree) ≡ length (children g.tree)
  same_count = sym (length_children-outlined f.tree) ∙ (ap (λ t. length (children t)) o.alike.tree ∙ length_children-outlined g.tree)

  pub frames_alike : owns_seen p [] ≡ owns_seen q [] → (cs : List Sides) (k : ℕ) → FirstMatch (ids_under [] f.tree f.names) (ids_under [] g.tree g.names) cs k → k ≡ length (children f.tree) → AreAlikeForms f g cs
  frames_alike owns_same cs k h e =
      let n : length cs ≡ length (children f.tree) = h.count ∙ e in
      let a : length (ids_under [] f.tree f.names) ≡ length (children f.tree) = length-ids_under [] f.tree f.names ∙ length-ids f.tree f.names in
      let b : length (ids_under [] g.tree g.names) ≡ length (children g.tree) = length-ids_under [] g.tree g.names ∙ length-ids g.tree g.names in
      let m : length (children f.tree) ≡ length (children g.tree) = same_count in
      let c : length cs ≡ k = h.count in
      record {
        operators = o.alike.operator;
        payloads = o.alike.payloads;
        args = twins_alike [] [] f.tree g.tree f.names g.names cs
            (owns_twins [] [] f.tree g.tree f.names g.names o.alike.tree (sym left_owns ∙ (owns_same ∙ right_owns)))
            (all_match (ids_under [] f.tree f.names) (ids_under [] g.tree g.names) cs (omega arith) (omega arith) (λ j d x y l. h.each j d x y (omega arith)));
      }

  pub left_under : (k : ℕ) (bs : List ℕ) (a d : Applied) → k < length (children f.tree) → bs ≡ above p [] k → a ≡ slice_index_or (child_ids f) k a → slice_index_or (ids_under [] f.tree f.names) k d ≡ under bs a
  left_under k bs a d l e c =
      id_under-at [] f.tree f.names k [] d a (let n : length (ids_in f.tree f.names) ≡ length (children f.tree) = length-ids f.tree f.names in omega arith)
      ∙ (λ i. under ((ap (λ (h : Form). slice_index_or (stacks [] h.tree h.names) k []) (sym o.left) ∙ sym e) i) (sym c i))

  pub right_under : (k : ℕ) (bs : List ℕ) (a d : Applied) → k < length (children g.tree) → bs ≡ above q [] k → a ≡ slice_index_or (child_ids g) k a → slice_index_or (ids_under [] g.tree g.names) k d ≡ under bs a
  right_under k bs a d l e c =
      id_under-at [] g.tree g.names k [] d a (let n : length (ids_in g.tree g.names) ≡ length (children g.tree) = length-ids g.tree g.names in omega arith)
      ∙ (λ i. under ((ap (λ (h : Form). slice_index_or (stacks [] h.tree h.names) k []) (sym o.right) ∙ sym e) i) (sym c i))

  -- one more child matches
  pub child_matches : (k : ℕ) (bs cs : List ℕ) (a b : Applied) (c : Sides) (es : List Sides) → FirstMatch (ids_under [] f.tree f.names) (ids_under [] g.tree g.names) es k → k < length (children f.tree) → bs ≡ above p [] k → cs ≡ above q [] k → ((d : Applied) → a ≡ slice_index_or (child_ids f) k d) → ((d : Applied) → b ≡ slice_index_or (child_ids g) k d) → Matches (under bs a) (under cs b) (to_applied c.l) (to_applied c.r) →
      FirstMatch (ids_under [] f.tree f.names) (ids_under [] g.tree g.names) (es ++ c ∷ []) (k + 1)
  child_matches k bs cs a b c es h l eb ec ea eb' m = first_match-more (ids_under [] f.tree f.names) (ids_under [] g.tree g.names) es k c h (λ d x.
      subst (λ (z : Applied). Matches z (slice_index_or (ids_under [] g.tree g.names) k x) (to_applied c.l) (to_applied c.r)) (sym (left_under k bs a d l eb (ea a)))
      (subst (λ (z : Applied). Matches (under bs a) z (to_applied c.l) (to_applied c.r)) (sym (right_under k cs b x (let n : length (children f.tree) ≡ length (children g.tree) = same_count in omega arith) ec (eb' b))) m))

-- names that stand twice in a child match no equation
module _ (f g : Form) (cs : List Sides) (once : All HasInjectiveSides cs) (h : AreAlikeForms f g cs) (k : ℕ) (a : Applied) where
  some : Sides
  some = record { l = record { id = record { 0 = 0 }; m = [] }; r = record { id = record { 0 = 0 }; m = [] } }

  pub left_apart : k < length (children f.tree) → a ≡ slice_index_or (child_ids f) k a → IsInjectiveMap a.1
  left_apart l e =
      let n : length (ids_under [] f.tree f.names) ≡ length (children f.tree) = length-ids_under [] f.tree f.names ∙ length-ids f.tree f.names in
      let r = match_at (ids_under [] f.tree f.names) (ids_under [] g.tree g.names) cs (forms_twins f g cs h).1 k a a some (omega arith) in
      let s : List ℕ = slice_index_or (stacks [] (outlined f.tree) (outlined_names 0 f.tree f.names)) k [] in
      let q : slice_index_or (ids_under [] f.tree f.names) k a ≡ under s a = id_under-at [] f.tree f.names k [] a a (let m : length (ids_in f.tree f.names) ≡ length (children f.tree) = length-ids f.tree f.names in omega arith) ∙ ap (under s) (sym e) in
      IsInjectiveMap-before (number_in s) a.1 (IsInjectiveMap-before r.1.names.name (with_values (number_in s) a.1)
      (subst IsInjectiveMap (r.1.names.left ∙ ap (λ (z : Applied). with_values r.1.names.name z.1) q) (once k some r.0).left))

  pub right_apart : k < length (children g.tree) → k < length (children f.tree) → a ≡ slice_index_or (child_ids g) k a → IsInjectiveMap a.1
  right_apart l l' e =
      let n : length (ids_under [] f.tree f.names) ≡ length (children f.tree) = length-ids_under [] f.tree f.names ∙ length-ids f.tree f.names in
      let r = match_at (ids_under [] f.tree f.names) (ids_under [] g.tree g.names) cs (forms_twins f g cs h).1 k a a some (omega arith) in
      let s : List ℕ = slice_index_or (stacks [] (outlined g.tree) (outlined_names 0 g.tree g.names)) k [] in
      let q : slice_index_or (ids_under [] g.tree g.names) k a ≡ under s a = id_under-at [] g.tree g.names k [] a a (let m : length (ids_in g.tree g.names) ≡ length (children g.tree) = length-ids g.tree g.names in omega arith) ∙ ap (under s) (sym e) in
      IsInjectiveMap-before (number_in s) a.1 (IsInjectiveMap-before r.1.names.name (with_values (number_in s) a.1)
      (subst IsInjectiveMap (r.1.names.right ∙ ap (λ (z : Applied). with_values r.1.names.name z.1) q) (once k some r.0).right))

-- one more equation whose sides are injective
pub more_apart : (es : List Sides) (c : Sides) → All HasInjectiveSides es → HasInjectiveSides c → All HasInjectiveSides (es ++ c ∷ [])
more_apart [] c h m zero d l = m
more_apart [] c h m (suc k) d l = absurd (omega arith)
more_apart (e ∷ es) c h m zero d l = h 0 d (omega arith)
more_apart (e ∷ es) c h m (suc k) d l = more_apart es c (λ j x n. h (suc j) x (omega arith)) m k d (omega arith)

-- no child is done
pub first_match-none : (ids bs : List Applied) (cs : List Sides) → cs ≡ [] → FirstMatch ids bs cs 0 × All HasInjectiveSides cs
first_match-none ids bs cs e = subst (λ es. FirstMatch ids bs es 0 × All HasInjectiveSides es) (sym e) (record { count = refl; each = λ j d x c l. absurd (omega arith) }, λ k d l. absurd (omega arith))

-- what the code has pushed
pub first_match-pushed : (ids bs : List Applied) (cs new : List Sides) (k : ℕ) → new ≡ cs → FirstMatch ids bs cs k → All HasInjectiveSides cs → FirstMatch ids bs new k × All HasInjectiveSides new
first_match-pushed ids bs cs new k e h n = subst (λ es. FirstMatch ids bs es k × All HasInjectiveSides es) (sym e) (h, n)
