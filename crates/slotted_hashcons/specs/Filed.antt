-- The filed nodes by the classes that they come from.
--     Filing             a key, and the slot of the class for each number of it
--     filed_of v i       what is filed of the class i
--     HasKey v i f       the node that is filed of the class i has the key f
--     IsIndexed rs ps    rows by place and the place of each class fit together
use Rattle.std.specs.Prelude.{◌≡◌, ◌≢◌, ℕ, List, [], ◌∷◌, Bool, false, length, Option, Some, None, option_map, slice_get, slice_index_or, map, is_some}
use Rattle.std.specs.List.{count_by}
use Rattle.std.specs.Coded.{Coded, coded×, coded_ℕ, coded_list, coded_option}
use Rattle.indexmap.specs.IndexMap.{IndexMap}
use Rattle.slotted_nodes.specs.Form.{Form, leaf}
use Rattle.slotted_classes.specs.FormCode.{form_code}

abbrev pub Filing : Type 0
Filing = Form × List (ℕ × ℕ)

abbrev pub filings_code : Coded (List (Option Filing))
filings_code = coded_list (coded_option (coded× form_code (coded_list (coded× coded_ℕ coded_ℕ))))

-- what is filed of the class i, if anything is
abbrev pub filed_of : List (Option Filing) → ℕ → Option Filing
filed_of v i = slice_index_or v i None

-- the node that is filed of the class i has the key f
abbrev pub HasKey : List (Option Filing) → ℕ → Form → Type 0
HasKey v i f = (m : List (ℕ × ℕ)) × (filed_of v i ≡ Some (f, m))

-- no class has a node of this key
abbrev pub IsNewKey : List (Option Filing) → Form → Type 0
IsNewKey v f = (i : ℕ) → ¬ HasKey v i f

-- no class but i has a node of this key
abbrev pub IsNewToOthers : List (Option Filing) → ℕ → Form → Type 0
IsNewToOthers v i f = (j : ℕ) → j ≢ i → ¬ HasKey v j f

-- no two classes have nodes of one key
abbrev pub HasKeysOnce : List (Option Filing) → Type 0
HasKeysOnce v = (i j : ℕ) (f : Form) → HasKey v i f → HasKey v j f → i ≡ j

-- a filed key, and the class that it is filed of; the slots of that stand elsewhere
abbrev pub FiledRow : Type 0
FiledRow = Form × (ℕ × List (ℕ × ℕ))

abbrev pub no_row : FiledRow
no_row = (record { operator = 0; payloads = []; tree = leaf; names = [] }, (0, []))

abbrev pub filed_row : {A : Type 0} → (A → Form) → A × ℕ → FiledRow
filed_row form e = (form e.0, (e.1, []))

-- the filed nodes by their places
abbrev pub rows_of : {A S : Type 0} → (A → Form) → IndexMap A ℕ S → List FiledRow
rows_of form m = map (filed_row form) m.entries

-- what stands at a place of the rows
abbrev pub filed_at : List FiledRow → Option ℕ → Option Filing
filed_at rows None = None
filed_at rows (Some p) = option_map (λ (r : FiledRow). (r.0, r.1.1)) (slice_get rows p)

-- the place of the node of the class i
abbrev pub place_of : List (Option ℕ) → ℕ → Option ℕ
place_of places i = slice_index_or places i None

-- a class with a place has its row there, each row stands at the place of its class, no key stands twice, and there are as many rows as
-- classes with a place
pub record IsIndexed (rows : List FiledRow) (places : List (Option ℕ)) : Type 0 where
  pub rows_at : (i p : ℕ) → place_of places i ≡ Some p → (r : FiledRow) × (slice_get rows p ≡ Some r) × (r.1.0 ≡ i)
  pub sources : (p : ℕ) (r : FiledRow) → slice_get rows p ≡ Some r → place_of places r.1.0 ≡ Some p
  pub keys : (p q : ℕ) (r s : FiledRow) → slice_get rows p ≡ Some r → slice_get rows q ≡ Some s → r.0 ≡ s.0 → p ≡ q
  pub count : length rows ≡ count_by is_some places

-- a map is empty where its flag is down
pub record HasNamesFlags (flags : List Bool) (names : List (List (ℕ × ℕ))) : Type 0 where
  pub count : length flags ≡ length names
  pub tells : (i : ℕ) → slice_index_or flags i false ≡ false → slice_index_or names i [] ≡ []

-- the keys of classes with the slots for their numbers
abbrev pub with_names : List (ℕ × ℕ) → Option Filing → Option Filing
with_names m o = option_map (λ (x : Filing). (x.0, m)) o

abbrev pub joined : List (Option Filing) → List (List (ℕ × ℕ)) → List (Option Filing)
joined [] ms = []
joined (k ∷ ks) [] = []
joined (k ∷ ks) (m ∷ ms) = with_names m k ∷ joined ks ms
