-- What alpha-equality sees of an outline under binders: the numbers of its own names, and each child under the binders
-- that are open where it stands. Binders stand in a list, the innermost first.
use Rattle.std.specs.Prelude.{◌≡◌, ◌<◌, map, ℕ, zero, suc, List, [], ◌∷◌, ◌++◌, length, take, drop, reverse, slice_index, slice_index_or, Option, Some, None, if◌then◌else◌, nat_lt}
use Rattle.std.specs.List.{All}
use Rattle.slotted_theory.specs.Term.{Term}
use Rattle.slotted_theory.specs.Nameless.{DTerm, nameless_by}
use Rattle.slotted_theory.specs.Shape.{number_in}
use Rattle.slotted_nodes.specs.Form.{Form, IsSmall, Tree, leaf, own, child, bind, scopes, scope_end_of}
use Rattle.slotted_languages.specs.Outline.{outlined, outlined_form, marks}

-- at each place of an outline the number of an own name, one more, and 0 at children and binders
abbrev pub owns : List ℕ → Tree → List ℕ → List ℕ
owns bs leaf xs = []
owns bs (own r) xs = suc (number_in bs (slice_index xs 0)) ∷ owns bs r (drop 1 xs)
owns bs (child i ks r) xs = 0 ∷ owns bs r (drop 1 xs)
owns bs (bind u r) xs =
    0 ∷ owns (slice_index xs 0 ∷ bs) u (take (length (scopes (outlined u))) (drop 1 xs)) ++ owns bs r (drop (length (scopes (outlined u))) (drop 1 xs))

-- for each child of an outline the binders above it
abbrev pub stacks : List ℕ → Tree → List ℕ → List (List ℕ)
stacks bs leaf xs = []
stacks bs (own r) xs = stacks bs r (drop 1 xs)
stacks bs (child i ks r) xs = bs ∷ stacks bs r (drop 1 xs)
stacks bs (bind u r) xs =
    stacks (slice_index xs 0 ∷ bs) u (take (length (scopes (outlined u))) (drop 1 xs)) ++ stacks bs r (drop (length (scopes (outlined u))) (drop 1 xs))

-- terms without their bound names, each under its own binders, and those that are too many under bs
abbrev pub seen : List ℕ → List (List ℕ) → List Term → List DTerm
seen bs ss [] = []
seen bs [] (t ∷ ts) = nameless_by (number_in bs) t ∷ seen bs [] ts
seen bs (s ∷ ss) (t ∷ ts) = nameless_by (number_in s) t ∷ seen bs ss ts

-- the binders above the place i, in a row of places that are given by their scopes and names
abbrev pub opened : ℕ → List (Option ℕ) → List ℕ → List ℕ → List ℕ
opened zero s xs bs = bs
opened (suc i) [] xs bs = bs
opened (suc i) (None ∷ s) xs bs = opened i s (drop 1 xs) bs
opened (suc i) (Some n ∷ s) xs bs = opened i s (drop 1 xs) (if nat_lt i n then slice_index xs 0 ∷ bs else bs)

-- the place i is a binder whose scope has the place j
abbrev pub IsOpen : List (Option ℕ) → ℕ → ℕ → Type 0
IsOpen s i j = (end : ℕ) × (scope_end_of s i ≡ Some end) × (j < end)

-- the number of a place's own name, one more, where neither a child nor a binder stands
abbrev pub own_at : ℕ → Option ℕ → List ℕ → ℕ → ℕ
own_at zero None bs x = suc (number_in bs x)
own_at _ _ bs x = 0

-- the left and the right names of pairs of binders that stand in a stack
abbrev pub lefts : List (ℕ × ℕ) → List ℕ
lefts stack = map (λ p. p.0) (reverse stack)

abbrev pub rights : List (ℕ × ℕ) → List ℕ
rights stack = map (λ p. p.1) (reverse stack)

-- f and g are outlines of one shape, few enough in places, and s has its marks
pub record AreMatched (f g s : Form) : Type 0 where
  pub small : IsSmall f
  pub outline : outlined f.tree ≡ f.tree
  pub same : g.tree ≡ f.tree
  pub marked : s.names ≡ marks f.tree

-- two nodes agree but for names and children
pub record AreAlike (a b : Form) : Type 0 where
  pub operator : a.operator ≡ b.operator
  pub payloads : a.payloads ≡ b.payloads
  pub tree : outlined a.tree ≡ outlined b.tree

-- f and g are the outlines of the nodes a and b, which are alike
pub record AreOutlines (a b f g : Form) : Type 0 where
  pub left : f ≡ outlined_form 0 a
  pub right : g ≡ outlined_form 0 b
  pub alike : AreAlike a b

-- the same of nodes of a language, by their forms
abbrev pub AreMatchedBy : {A : Type 0} → (A → Form) → A → A → A → Type 0
AreMatchedBy form f g s = AreMatched (form f) (form g) (form s)

abbrev pub AreOutlinesBy : {A : Type 0} → (A → Form) → A → A → A → A → Type 0
AreOutlinesBy form a b f g = AreOutlines (form a) (form b) (form f) (form g)

-- how many names, children and binders a node has
abbrev pub place_count : Form → ℕ
place_count a = length (scopes (outlined a.tree))

-- the names of the binders above a child that stands in the outline f, and of those outside for one that is too many
abbrev pub above : Form → List ℕ → ℕ → List ℕ
above f bs k = slice_index_or (stacks bs f.tree f.names) k bs

-- the children of an outline without bound names
abbrev pub children_seen : Form → List ℕ → List Term → List DTerm
children_seen f bs ts = seen bs (stacks bs f.tree f.names) ts

-- none is a hole
abbrev pub AreTerms : List Term → Type 0
AreTerms ts = All (λ t. 0 < t.op) ts

-- the number of the name at the place i of an outline
abbrev pub number_at : Form → List ℕ → ℕ → ℕ
number_at f bs i = number_in (opened i (scopes f.tree) f.names bs) (slice_index f.names i)

-- neither a child nor a binder stands at the place i of an outline
abbrev pub IsOwn : Tree → ℕ → Type 0
IsOwn t i = (slice_index (marks t) i ≡ 0) × (slice_index_or (scopes t) i None ≡ None)

-- the own names of an outline as they are seen
abbrev pub owns_seen : Form → List ℕ → List ℕ
owns_seen f bs = owns bs f.tree f.names

-- the names of the binders on the left above a child that stands in the outline f, and of those on the right
abbrev pub lefts_above : Form → List (ℕ × ℕ) → ℕ → List ℕ
lefts_above f stack k = above f (lefts stack) k

abbrev pub rights_above : Form → List (ℕ × ℕ) → ℕ → List ℕ
rights_above f stack k = above f (rights stack) k

-- two terms are one without their bound names, the one below the binders on the left, the other below those on the right
abbrev pub SameTerm : List (ℕ × ℕ) → Term → Term → Type 0
SameTerm stack t u = nameless_by (number_in (lefts stack)) t ≡ nameless_by (number_in (rights stack)) u

-- so are two terms where they stand as the children k of the outlines f and g
abbrev pub SameChild : Form → Form → List (ℕ × ℕ) → ℕ → Term → Term → Type 0
SameChild f g stack k t u = nameless_by (number_in (lefts_above f stack k)) t ≡ nameless_by (number_in (rights_above g stack k)) u

-- and so are all children of the two outlines
abbrev pub SameChildren : Form → Form → List (ℕ × ℕ) → List Term → List Term → Type 0
SameChildren f g stack ts us = children_seen f (lefts stack) ts ≡ children_seen g (rights stack) us

-- the own names of two outlines have the same numbers below the binders: all of them; and what stands at the place i, a name
-- or anything
abbrev pub SameOwns : Form → Form → List (ℕ × ℕ) → Type 0
SameOwns f g stack = owns_seen f (lefts stack) ≡ owns_seen g (rights stack)

abbrev pub SameNumber : Form → Form → List (ℕ × ℕ) → ℕ → Type 0
SameNumber f g stack i = number_at f (lefts stack) i ≡ number_at g (rights stack) i

abbrev pub SamePlace : Form → Form → List (ℕ × ℕ) → ℕ → Type 0
SamePlace f g stack i = slice_index (owns_seen f (lefts stack)) i ≡ slice_index (owns_seen g (rights stack)) i
