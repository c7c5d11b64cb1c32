-- What a graph keeps by its analysis: the data of each class, and the classes that wait to be modified.
--     KeepsPart codes g p            this is what the graph keeps
--     new_graph codes n t            the graph without classes
--     IsAnalysisOf codes g n         its analysis
--     HasRounds codes g m            its limit of rounds
--     HasData codes g i x            the data of the class that i finds
--     AbsorbsMade codes meaning g    merging what a filed node makes into the data of its class changes nothing
--     CountsPending codes g n        so many live classes wait to be modified
--     LowersData codes meaning g h   data only went down, it comes from that of g and from nodes, and the analysis and the limit of rounds are the same
--     CarriesData codes meaning g h  so it did from g to h, and what was made or has changed waits to be modified
--     LowersDataWith given .., CarriesDataWith given ..    the same, where data comes from this, too, which was given for classes
--     AbsorbsValue codes meaning h i v    the class that i finds has data that merging v changes nothing of
--     MergesData ..                  data was carried along so, with v given for the class i, and the class that i finds has data that absorbs v
--     TakesPending codes g h is      from g to h the live classes that waited were taken, and these are they, ascending
use Rattle.std.specs.Prelude.{◌≡◌, ◌<◌, ℕ, List, [], ◌∷◌, length, Bool, ◌&&◌, count_by, map, nat_lt, slice_get, slice_index_or, Some, Contains}
use Rattle.std.specs.Coded.{Coded}
use Rattle.std.specs.List.{filter}
use Rattle.std.specs.List.Sorted.{IsPermutation, IsSorted}
use Rattle.std.specs.Ordering.{nat_cmp}
use Rattle.slotted_slots.specs.Table.{Table}
use Rattle.slotted_model.specs.Correspondence.{AllDifferent}
use Rattle.slotted_model.specs.State.{Row, child_classes}
use Rattle.slotted_model_analyses.specs.Analysis.{Absorbs}
use Rattle.slotted_rebuilding.specs.Counted.{CountsGo}
use Rattle.slotted_data.specs.Meaning.{Meaning, by_bare_nodes}
use Rattle.slotted_data.specs.Grounded.{Grounds, IsOldOr, StaysFound}
use Rattle.slotted_data.specs.Held.{no_values}
use Rattle.slotted_data.specs.Part.{Part, NotesChanges, part_by, part_code}
use Rattle.slotted_operations.specs.Causes.{class_found}
use Rattle.slotted_operations.specs.Graph.{Graph, empty_graph}
use Rattle.slotted_operations.specs.Image.{Image}
use Rattle.slotted_operations.specs.Reports.{finds_itself}

abbrev pub KeepsPart : {N D : Type 0} → Coded N × Coded D → Graph → Part N D → Type 0
KeepsPart codes g p = g.part ≡ (part_code codes).code p

-- how many rounds are made at most, unless a caller says otherwise
abbrev pub usual_rounds : ℕ
usual_rounds = 16

-- the graph without classes, over this table
abbrev pub new_graph : {N D : Type 0} → Coded N × Coded D → N → Table → Graph
new_graph codes n t = record (empty_graph t) { part = part_by codes n usual_rounds no_values }

pub record IsAnalysisOf {N D : Type 0} (codes : Coded N × Coded D) (g : Graph) (n : N) : Type 0 where
  pub part : Part N D
  pub keeps : KeepsPart codes g part
  pub is : part.analysis ≡ n

pub record HasRounds {N D : Type 0} (codes : Coded N × Coded D) (g : Graph) (m : ℕ) : Type 0 where
  pub part : Part N D
  pub keeps : KeepsPart codes g part
  pub is : part.rounds ≡ m

-- from g to h the limit of rounds was set, and nothing else has changed
pub record SetsRounds {N D : Type 0} (codes : Coded N × Coded D) (g h : Graph) (m : ℕ) : Type 0 where
  pub part : Part N D
  pub keeps : KeepsPart codes g part
  pub set : h ≡ record g { part = (part_code codes).code (record part { rounds = m }) }

-- what a graph with this part has for the class that i finds
abbrev pub HasDatumIn : {N D : Type 0} → Graph → Part N D → ℕ → D → Type 0
HasDatumIn g p i x = slice_get p.values (class_found g.image i) ≡ Some x

-- the same by a function, which is x where there is no class
abbrev pub datum_in : {N D : Type 0} → Graph → Part N D → D → ℕ → D
datum_in g p x i = slice_index_or p.values (class_found g.image i) x

pub record HasData {N D : Type 0} (codes : Coded N × Coded D) (g : Graph) (i : ℕ) (x : D) : Type 0 where
  pub part : Part N D
  pub keeps : KeepsPart codes g part
  pub is : HasDatumIn g part i x

-- of each filed node, what it makes of the data of its children is absorbed by the data of its class
pub record AbsorbsMade {N D : Type 0} (codes : Coded N × Coded D) (meaning : N → Meaning D) (g : Graph) : Type 0 where
  pub part : Part N D
  pub keeps : KeepsPart codes g part
  pub absorbs : (x : D) (r : Row) → Contains g.filed r → Absorbs (by_bare_nodes (meaning part.analysis)) (datum_in g part x r.source)
      ((by_bare_nodes (meaning part.analysis)).make r.shape (map (datum_in g part x) (child_classes r.shape.args)))

-- whether the number is that of a class that finds itself
abbrev pub is_live_class : Image → ℕ → Bool
is_live_class g i = nat_lt i (length g.canonical) && finds_itself g i

pub record CountsPending {N D : Type 0} (codes : Coded N × Coded D) (g : Graph) (n : ℕ) : Type 0 where
  pub part : Part N D
  pub keeps : KeepsPart codes g part
  pub is : n ≡ count_by (is_live_class g.image) part.changed

-- what each class has now absorbs what it had
abbrev pub DataFalls : {N D : Type 0} → (N → Meaning D) → Graph → Part N D → Graph → Part N D → Type 0
DataFalls {D = D} meaning g older h newer =
    (i : ℕ) → i < length g.image.canonical → (x : D) → HasDatumIn g older i x → (y : D) × HasDatumIn h newer i y × Absorbs (by_bare_nodes (meaning older.analysis)) y x

-- classes of g stay in h, and so it stays which of them find the same
abbrev pub KeepsFound : Image → Image → Type 0
KeepsFound g h = StaysFound g.canonical h.canonical (class_found g) (class_found h)

-- the data of each class of h comes from that of g, from what was given, and from what nodes make of such data
abbrev pub DataComes : {N D : Type 0} → List (ℕ × D) → (N → Meaning D) → Part N D → Graph → Part N D → Type 0
DataComes given meaning older h newer =
    Grounds (by_bare_nodes (meaning older.analysis)) h.image.canonical (class_found h.image) (IsOldOr given older.values) newer.values

-- what h keeps, where g keeps this
pub record LowersPartWith {N D : Type 0} (given : List (ℕ × D)) (codes : Coded N × Coded D) (meaning : N → Meaning D) (g : Graph) (older : Part N D)
    (h : Graph) : Type 0 where
  pub newer : Part N D
  pub after : KeepsPart codes h newer
  pub analysis : newer.analysis ≡ older.analysis
  pub rounds : newer.rounds ≡ older.rounds
  pub falls : DataFalls meaning g older h newer
  pub stays : KeepsFound g.image h.image
  pub comes : DataComes given meaning older h newer
  -- the totals over all turns for data rise, that of turns by no more than that of bounds
  pub counts : CountsGo older.counts.own newer.counts.own

abbrev pub LowersPart : {N D : Type 0} → Coded N × Coded D → (N → Meaning D) → Graph → Part N D → Graph → Type 0
LowersPart codes meaning g older h = LowersPartWith [] codes meaning g older h

abbrev pub LowersDataWith : {N D : Type 0} → List (ℕ × D) → Coded N × Coded D → (N → Meaning D) → Graph → Graph → Type 0
LowersDataWith {N} {D} given codes meaning g h = (older : Part N D) → KeepsPart codes g older → LowersPartWith given codes meaning g older h

abbrev pub LowersData : {N D : Type 0} → Coded N × Coded D → (N → Meaning D) → Graph → Graph → Type 0
LowersData codes meaning g h = LowersDataWith [] codes meaning g h

pub record CarriesDataWith {N D : Type 0} (given : List (ℕ × D)) (codes : Coded N × Coded D) (meaning : N → Meaning D) (g h : Graph) : Type 0 where
  pub older : Part N D
  pub newer : Part N D
  pub before : KeepsPart codes g older
  pub after : KeepsPart codes h newer
  pub analysis : newer.analysis ≡ older.analysis
  pub rounds : newer.rounds ≡ older.rounds
  pub falls : DataFalls meaning g older h newer
  pub stays : KeepsFound g.image h.image
  pub comes : DataComes given meaning older h newer
  pub notes : D → NotesChanges older.values older.changed newer.values newer.changed
  pub counts : CountsGo older.counts.own newer.counts.own

abbrev pub CarriesData : {N D : Type 0} → Coded N × Coded D → (N → Meaning D) → Graph → Graph → Type 0
CarriesData codes meaning g h = CarriesDataWith [] codes meaning g h

pub record AbsorbsValue {N D : Type 0} (codes : Coded N × Coded D) (meaning : N → Meaning D) (h : Graph) (i : ℕ) (v : D) : Type 0 where
  pub part : Part N D
  pub keeps : KeepsPart codes h part
  pub datum : D
  pub has : HasDatumIn h part i datum
  pub absorbs : Absorbs (by_bare_nodes (meaning part.analysis)) datum v

pub record MergesData {N D : Type 0} (codes : Coded N × Coded D) (meaning : N → Meaning D) (g h : Graph) (i : ℕ) (v : D) : Type 0 where
  pub carries : CarriesDataWith ((i, v) ∷ []) codes meaning g h
  pub absorbs : AbsorbsValue codes meaning h i v

-- no class waited twice, the live ones of those that waited are taken, ascending, and nothing else of what is kept has changed
pub record TakesPending {N D : Type 0} (codes : Coded N × Coded D) (g h : Graph) (taken : List ℕ) : Type 0 where
  pub part : Part N D
  pub keeps : KeepsPart codes g part
  pub left : KeepsPart codes h (record part { changed = [] })
  pub once : D → AllDifferent part.changed
  pub same : IsPermutation (filter (is_live_class g.image) part.changed) taken
  pub ascending : IsSorted nat_cmp taken
