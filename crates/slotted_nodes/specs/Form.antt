-- What a node is, apart from how it is stored: its operator, its payloads, the tree of its arguments without their
-- names, and the names at its places from the left.
use Rattle.std.specs.Prelude.{ℕ, suc, zero, ◌+◌, ◌-◌, List, [], ◌∷◌, ◌++◌, length, map, take, drop, min, Option, Some, None, cond, nat_lt, slice_index_or, slice_set, ◌<◌, ◌^◌}
use Rattle.slotted_slots.specs.Maps.{keys, values}
use Rattle.slotted_slots.specs.Table.{slot_limit}
use Rattle.slotted_slots.specs.declared.types.AppliedId.{AppliedId}

-- the arguments of a node: own names, children with the keys of their maps, and binders with the arguments under them
pub data Tree : Type 0 where
  leaf : Tree
  own : Tree → Tree
  child : ℕ → List ℕ → Tree → Tree
  bind : Tree → Tree → Tree

-- the arguments of the one and then those of the other
abbrev pub join : Tree → Tree → Tree
join leaf t = t
join (own r) t = own (join r t)
join (child i ks r) t = child i ks (join r t)
join (bind u r) t = bind u (join r t)

-- for each place from the left: None, or how many places its binder scopes
abbrev pub scopes : Tree → List (Option ℕ)
scopes leaf = []
scopes (own r) = None ∷ scopes r
scopes (child i ks r) = map (λ _. None) ks ++ scopes r
scopes (bind u r) = Some (length (scopes u)) ∷ scopes u ++ scopes r

-- the end of a scope that begins after place i and has n places
abbrev pub end_at : ℕ → Option ℕ → Option ℕ
end_at i None = None
end_at i (Some n) = Some (i + 1 + n)

-- where the scope of the binder at a place ends
abbrev pub scope_end_of : List (Option ℕ) → ℕ → Option ℕ
scope_end_of s i = end_at i (slice_index_or s i None)

-- the children from the left, each as its id and the keys of its map
abbrev pub children : Tree → List (ℕ × List ℕ)
children leaf = []
children (own r) = children r
children (child i ks r) = (i, ks) ∷ children r
children (bind u r) = children u ++ children r

-- the first place of a child
abbrev pub child_place : Tree → ℕ → ℕ
child_place leaf k = 0
child_place (own r) k = suc (child_place r k)
child_place (child i ks r) zero = 0
child_place (child i ks r) (suc k) = length ks + child_place r k
child_place (bind u r) k =
    cond (nat_lt k (length (children u))) (suc (child_place u k))
    (suc (length (scopes u) + child_place r (k - length (children u))))

-- the tree with another id and other keys at a child
abbrev pub with_child_in : Tree → ℕ → ℕ → List ℕ → Tree
with_child_in leaf k j ls = leaf
with_child_in (own r) k j ls = own (with_child_in r k j ls)
with_child_in (child i ks r) zero j ls = child j ls r
with_child_in (child i ks r) (suc k) j ls = child i ks (with_child_in r k j ls)
with_child_in (bind u r) k j ls =
    cond (nat_lt k (length (children u))) (bind (with_child_in u k j ls) r)
    (bind u (with_child_in r (k - length (children u)) j ls))

-- what a node is
pub record Form : Type 0 where
  pub operator : ℕ
  pub payloads : List (List ℕ)
  pub tree : Tree
  pub names : List ℕ

-- the number of keys of a child
abbrev pub width : Tree → ℕ → ℕ
width t k = length (slice_index_or (children t) k (0, [])).1

-- the names at the places of a child
abbrev pub child_names : Form → ℕ → List ℕ
child_names f k = take (width f.tree k) (drop (child_place f.tree k) f.names)

-- a child as its id, its keys and its names
abbrev pub child_of : Form → ℕ → ℕ × List ℕ × List ℕ
child_of f k = ((slice_index_or (children f.tree) k (0, [])).0, (slice_index_or (children f.tree) k (0, [])).1, child_names f k)

-- a form without arguments
abbrev pub plain : List (List ℕ) → Form
plain ps = record { operator = 0; payloads = ps; tree = leaf; names = [] }

-- a slot, a child, and a binder over a form
abbrev pub slot_form : ℕ → Form
slot_form x = record { operator = 0; payloads = []; tree = own leaf; names = x ∷ [] }

abbrev pub child_form : ℕ → List (ℕ × ℕ) → Form
child_form i m = record { operator = 0; payloads = []; tree = child i (keys m) leaf; names = values m }

abbrev pub bind_form : ℕ → Form → Form
bind_form x f = record { operator = f.operator; payloads = f.payloads; tree = bind f.tree leaf; names = x ∷ f.names }

-- two fields of one node
abbrev pub join_form : Form → Form → Form
join_form f g = record { operator = 0; payloads = f.payloads ++ g.payloads; tree = join f.tree g.tree; names = f.names ++ g.names }

-- a variant with these fields
abbrev pub variant : ℕ → Form → Form
variant k f = record f { operator = k }

-- a form with another name at a place
abbrev pub with_name : Form → ℕ → ℕ → Form
with_name f i x = record f { names = slice_set f.names i x }

-- a form with another child in the place of a child
abbrev pub with_child : Form → ℕ → ℕ → List ℕ → List ℕ → Form
with_child f k j ls xs = record f {
  tree = with_child_in f.tree k j ls;
  names = take (child_place f.tree k) f.names ++ xs ++ drop (child_place f.tree k + width f.tree k) f.names;
}

-- a form with this applied id in the place of a child
abbrev pub with_applied : Form → ℕ → AppliedId → Form
with_applied f k a = with_child f k a.id.0 (keys a.m) (values a.m)

-- the id of a child, and its keys
abbrev pub child_id : Form → ℕ → ℕ
child_id f k = (slice_index_or (children f.tree) k (0, [])).0

abbrev pub child_keys : Form → ℕ → List ℕ
child_keys f k = (slice_index_or (children f.tree) k (0, [])).1

-- as many places as slots can number
abbrev pub IsSmall : Form → Type 0
IsSmall f = length f.names < slot_limit

-- a number as a call answers it: the largest one that there is in place of a larger one
abbrev pub counted : ℕ → ℕ
counted n = min n (2 ^ 64 - 1)

-- the end of a scope as a call answers it
abbrev pub counted_end : Option ℕ → Option ℕ
counted_end None = None
counted_end (Some e) = Some (counted e)

-- a place that calls reach: it is below the count that they answer
abbrev pub IsPlace : Form → ℕ → Type 0
IsPlace f i = i < counted (length f.names)
