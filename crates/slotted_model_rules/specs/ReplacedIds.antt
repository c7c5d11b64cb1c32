-- Substitution over ids, as a walk over canonical nodes makes it: from the top, where what cannot hold x is left alone unseen.
--     IsReplaced nodes x t b a            a is full, and its term is that of b with the term of t for each topmost part that is the term of x
--     IsOlderOrLacks b x                  the class of b is older than that of x, or some name of x is none of b
--     HasReplacedChildren nodes x t d e   e are the arguments d with a full id for each child, whose term has t for x, seen from where the child stands
--     HasReplacedIds nodes x t n m        the same of arguments with names, whose binders have names of neither x nor t
--     ids_of n, HasOtherIds n m           the ids in arguments with names, from the left; m is n but for its ids
use Rattle.std.specs.Prelude.{◌≡◌, ◌⊎◌, ℕ, ◌<◌, List, [], ◌∷◌, ◌++◌, Contains, slice_index_or}
use Rattle.slotted_theory.specs.Nameless.{DArgs, DTerm, stop, place, sub, scope}
use Rattle.slotted_theory.proofs.Values.{node, child_before}
use Rattle.slotted_model.specs.Applied.{Applied, values, as_term}
use Rattle.slotted_model.specs.Classes.{term_of, IsFull}
use Rattle.slotted_model_rules.specs.Matcher.{NodeArgs, no_more, a_name, an_id, a_binder}
use Rattle.slotted_model_rules.specs.Substitution.{seen_inside, substituted}

-- a is full, and stands for what b stands for with t in the place of x
abbrev pub IsReplaced : List DTerm → Applied → Applied → Applied → Applied → Type 0
IsReplaced nodes x t b a = IsFull nodes a × (term_of nodes a ≡ substituted (term_of nodes x) (term_of nodes t) (term_of nodes b))

-- the class of b is older than that of x, or b lacks a name of x
abbrev pub IsOlderOrLacks : Applied → Applied → Type 0
IsOlderOrLacks b x = (b.0 < x.0) ⊎ ((y : ℕ) × Contains (values x.1) y × (¬ Contains (values b.1) y))

-- the same names and binders, and for each child a full id of the term that comes of it: under a binder x and t are seen from there
abbrev pub HasReplacedChildren : List DTerm → DTerm → DTerm → DArgs → DArgs → Type 0
HasReplacedChildren nodes x t stop e = e ≡ stop
HasReplacedChildren nodes x t (place y rest) e = (r : DArgs) × (e ≡ place y r) × HasReplacedChildren nodes x t rest r
HasReplacedChildren nodes x t (sub op payloads args rest) e =
    (c : Applied) × (a : Applied) × (r : DArgs) × (node op payloads args ≡ as_term c) × (e ≡ child_before (as_term a) r) ×
    IsFull nodes a × (term_of nodes a ≡ substituted x t (term_of nodes c)) × HasReplacedChildren nodes x t rest r
HasReplacedChildren nodes x t (scope inner rest) e =
    (i : DArgs) × (r : DArgs) × (e ≡ scope i r) × HasReplacedChildren nodes (seen_inside x) (seen_inside t) inner i ×
    HasReplacedChildren nodes x t rest r

-- the same names and binders, and for each child what comes of it: where no binder has a name of x or of t, these are from inside what they are
abbrev pub HasReplacedIds : List DTerm → Applied → Applied → NodeArgs → NodeArgs → Type 0
HasReplacedIds nodes x t no_more m = m ≡ no_more
HasReplacedIds nodes x t (a_name y rest) m = (r : NodeArgs) × (m ≡ a_name y r) × HasReplacedIds nodes x t rest r
HasReplacedIds nodes x t (an_id c rest) m =
    (a : Applied) × (r : NodeArgs) × (m ≡ an_id a r) × IsFull nodes c × IsReplaced nodes x t c a × HasReplacedIds nodes x t rest r
HasReplacedIds nodes x t (a_binder y inner rest) m =
    (i : NodeArgs) × (r : NodeArgs) × (m ≡ a_binder y i r) × (¬ Contains (values x.1) y) × (¬ Contains (values t.1) y) ×
    HasReplacedIds nodes x t inner i × HasReplacedIds nodes x t rest r

-- the ids from the left
abbrev pub ids_of : NodeArgs → List Applied
ids_of no_more = []
ids_of (a_name y rest) = ids_of rest
ids_of (an_id a rest) = a ∷ ids_of rest
ids_of (a_binder y inner rest) = ids_of inner ++ ids_of rest

-- the one of this number
abbrev pub id_at : NodeArgs → ℕ → Applied
id_at n k = slice_index_or (ids_of n) k (0, [])

-- the same names and binders, and an id for each id
abbrev pub HasOtherIds : NodeArgs → NodeArgs → Type 0
HasOtherIds no_more m = m ≡ no_more
HasOtherIds (a_name y rest) m = (r : NodeArgs) × (m ≡ a_name y r) × HasOtherIds rest r
HasOtherIds (an_id c rest) m = (a : Applied) × (r : NodeArgs) × (m ≡ an_id a r) × HasOtherIds rest r
HasOtherIds (a_binder y inner rest) m =
    (i : NodeArgs) × (r : NodeArgs) × (m ≡ a_binder y i r) × HasOtherIds inner i × HasOtherIds rest r
