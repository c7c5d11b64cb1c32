-- What is open in a text that is read, and what ends it.
--     Frames                    what is open, the innermost frame first
--     Behind b v fs ts ps       behind a term inside the frames, the parts ts end all that is open, and their row is ps
--     Before b v fs ts ps       the same where the next part is not read, which inside a scope begins what slots bind in
use Rattle.std.specs.Prelude.{◌≡◌, ◌<◌, length, ℕ, Bool, List, [], ◌∷◌, ◌++◌}
use Rattle.slotted_theory.specs.Nameless.{DArgs, DTerm}
use Rattle.slotted_check.specs.declared.pieces.Piece.{Piece}
use Rattle.slotted_check.specs.declared.pieces.Piece.TheVariants.{Leave}
use Rattle.slotted_check.specs.Rows.{closing, leaving, row, row_args, ArePlain, IsPlain}
use Rattle.slotted_certificates.specs.declared.tokens.Token.{Token}
use Rattle.slotted_certificates.specs.declared.tokens.Token.TheVariants.{Close}
use Rattle.slotted_certificates.specs.declared.frames.Frame.{Frame}
use Rattle.slotted_certificates.specs.declared.frames.Frame.TheVariants.{Root, Node, Scope, Also}
use Rattle.slotted_certificates.specs.Grammar.{AreArgumentsOf, IsBoundIn, IsTermOf, begins_bound}
use Rattle.slotted_certificates.specs.Scopes.{numbering, turned}

-- the names of the scopes
abbrev pub scopes_of : List Frame → List ℕ
scopes_of [] = []
scopes_of (Root ∷ fs) = scopes_of fs
scopes_of (Node n ∷ fs) = scopes_of fs
scopes_of (Scope x n ∷ fs) = x ∷ scopes_of fs
scopes_of (Also x ∷ fs) = x ∷ scopes_of fs

-- the frame is the scope of a name
abbrev pub IsScope : Frame → Type 0
IsScope Root = ⊥
IsScope (Node n) = ⊥
IsScope (Scope x n) = Unit {0}
IsScope (Also x) = Unit {0}

-- the frames, the innermost one first
abbrev pub frames : List Frame → List Frame
frames fs = turned fs []

-- what a row and parts of a text, in turn, may be
abbrev pub Rest : Type 1
Rest = List Token → List Piece → Type 0

-- arguments up to a closing bracket, and what may stand behind them
pub record EndsNode (binds : ℕ → Bool) (values : ℕ → DTerm → Type 0) (n : ℕ) (ρ : ℕ → ℕ) (behind : Rest) (ts : List Token) (ps : List Piece) : Type 0 where
  pub tokens : List Token
  pub args : DArgs
  pub later : List Token
  pub more : List Piece
  pub are : AreArgumentsOf binds values n ρ tokens args
  pub plain : ArePlain args
  pub text : ts ≡ tokens ++ Close ∷ later
  pub pieces : ps ≡ row_args closing args ++ more
  pub rest : behind later more

-- the end of a scope
pub record EndsScope (behind : Rest) (ts : List Token) (ps : List Piece) : Type 0 where
  pub more : List Piece
  pub pieces : ps ≡ Leave ∷ more
  pub rest : behind ts more

-- a term, and what may stand behind it
pub record BeginsTerm (binds : ℕ → Bool) (values : ℕ → DTerm → Type 0) (ρ : ℕ → ℕ) (behind : Rest) (ts : List Token) (ps : List Piece) : Type 0 where
  pub tokens : List Token
  pub term : DTerm
  pub later : List Token
  pub more : List Piece
  pub is : IsTermOf binds values ρ tokens term
  pub plain : IsPlain term
  pub text : ts ≡ tokens ++ later
  pub pieces : ps ≡ row term ++ more
  pub rest : behind later more

-- what slots bind in, and what may stand behind it
pub record BeginsBound (binds : ℕ → Bool) (values : ℕ → DTerm → Type 0) (ρ : ℕ → ℕ) (behind : Rest) (ts : List Token) (ps : List Piece) : Type 0 where
  pub tokens : List Token
  pub inner : DArgs
  pub later : List Token
  pub more : List Piece
  pub is : IsBoundIn binds values ρ tokens inner
  pub plain : ArePlain inner
  pub text : ts ≡ tokens ++ later
  pub pieces : ps ≡ row_args leaving inner ++ more
  pub rest : behind later more

abbrev pub Behind : (ℕ → Bool) → (ℕ → DTerm → Type 0) → List Frame → Rest
Behind b v [] ts ps = (ts ≡ []) × (ps ≡ [])
Behind b v (Root ∷ fs) ts ps = Behind b v fs ts ps
Behind b v (Node n ∷ fs) ts ps = EndsNode b v n (numbering (scopes_of fs)) (Behind b v fs) ts ps
Behind b v (Scope x n ∷ fs) ts ps = EndsScope (EndsNode b v n (numbering (scopes_of fs)) (Behind b v fs)) ts ps
Behind b v (Also x ∷ fs) ts ps = EndsScope (Behind b v fs) ts ps

abbrev pub Before : (ℕ → Bool) → (ℕ → DTerm → Type 0) → List Frame → Rest
Before b v [] ts ps = (ts ≡ []) × (ps ≡ [])
Before b v (Root ∷ fs) ts ps = BeginsTerm b v (numbering (scopes_of fs)) (Behind b v fs) ts ps
Before b v (Node n ∷ fs) ts ps = EndsNode b v n (numbering (scopes_of fs)) (Behind b v fs) ts ps
Before b v (Scope x n ∷ fs) ts ps = BeginsBound b v (numbering (x ∷ scopes_of fs)) (EndsNode b v n (numbering (scopes_of fs)) (Behind b v fs)) ts ps
Before b v (Also x ∷ fs) ts ps = BeginsBound b v (numbering (x ∷ scopes_of fs)) (Behind b v fs) ts ps

-- what ends the inner frames ends the outer ones too, behind pieces
pub record EndsScopes (b : ℕ → Bool) (v : ℕ → DTerm → Type 0) (row row' : List Piece) (fs fs' : List Frame) : Type 0 where
  pub pieces : List Piece
  pub made : row' ≡ row ++ pieces
  pub goes : (ts : List Token) (ps : List Piece) → Behind b v (frames fs') ts ps → Behind b v (frames fs) ts (pieces ++ ps)

-- a term in the outer frames becomes one in the inner frames, by pieces
pub record EndsTerm (b : ℕ → Bool) (v : ℕ → DTerm → Type 0) (row row' : List Piece) (fs fs' : List Frame) : Type 0 where
  pub pieces : List Piece
  pub made : row' ≡ row ++ pieces
  pub goes : (ts : List Token) (ps : List Piece) → Before b v (frames fs') ts ps → Behind b v (frames fs) ts (pieces ++ ps)

-- a part is passed, and adds pieces: `next` says whether slots or none and a term stand behind it
pub record Passes (b : ℕ → Bool) (v : ℕ → DTerm → Type 0) (row row' : List Piece) (fs fs' : List Frame) (t : Token) (next : Bool) : Type 0 where
  pub pieces : List Piece
  pub made : row' ≡ row ++ pieces
  pub goes : (ts : List Token) (ps : List Piece) → begins_bound ts ≡ next → Before b v (frames fs') ts ps → Before b v (frames fs) (t ∷ ts) (pieces ++ ps)

-- the parts ts are passed up to the parts us behind them, and add pieces
pub record Advances (b : ℕ → Bool) (v : ℕ → DTerm → Type 0) (row row' : List Piece) (fs fs' : List Frame) (ts us : List Token) : Type 0 where
  pub pieces : List Piece
  pub made : row' ≡ row ++ pieces
  pub goes : (ps : List Piece) → Before b v (frames fs') us ps → Before b v (frames fs) ts (pieces ++ ps)
  pub shorter : length us < length ts
