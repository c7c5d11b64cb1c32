-- The declared word that is nearest to a word.
--     edits w v              how many characters are to be put in, taken out or replaced to make v of w
--     IsNearest us w v       v is a declared word that is near, and none is nearer. Of several it is the first
use Rattle.std.specs.Prelude.{◌≡◌, ◌<◌, ◌≤◌, ℕ, List, ◌∷◌, ◌++◌, length, All, nat_eq}
use Rattle.std.specs.Str.{chars}
use Rattle.strsim.specs.Edits.{levenshtein_row}
use Rattle.slotted_signatures.specs.Usage.{Usage}

abbrev pub edits : List ℕ → List ℕ → ℕ
edits w v = levenshtein_row nat_eq (chars w) (chars v) (length (chars v))

pub record IsNearest (us : List Usage) (w v : List ℕ) : Type 0 where
  pub before : List Usage
  pub usage : Usage
  pub after : List Usage
  pub stands : us ≡ before ++ usage ∷ after
  pub word : v ≡ usage.word
  pub near : edits w v ≤ 2
  pub first : All (λ u. edits w v < edits w u.word) before
  pub least : All (λ u. edits w v ≤ edits w u.word) after
