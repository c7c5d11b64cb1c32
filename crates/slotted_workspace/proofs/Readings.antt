-- What reading a text, and adding what it says, leaves of the graph.
use Rattle.std.proofs.Common.{◌≡◌, ◌⊎◌, ◌↔◌, ◌∙◌, ℕ, List, Ok, Err, IsErrOf, ap, refl, sym, inl, inr}
use Rattle.std.specs.Prelude.{Bool, true, false, IsTrue, Option}
use Rattle.slotted_slots.specs.declared.error.Error.{Error}
use Rattle.slotted_slots.specs.declared.error.Error.TheVariants.{Failed}
use Rattle.std.proofs.lemmas.Bool.{false≢true}
use Rattle.slotted_slots.specs.Naming.{IsNamingRefusal}
use Rattle.slotted_slots.specs.Syntax.{Element}
use Rattle.slotted_theory.specs.Term.{Term}
use Rattle.slotted_nodes.specs.Form.{Form}
use Rattle.slotted_languages.proofs.HandedOn.{error_or}
use Rattle.slotted_operations.specs.Graph.{Graph, OnlyReads}
use Rattle.slotted_operations.specs.Reads.{AnswersTerm}
use Rattle.slotted_graph.specs.Extension.{ExtendsTo}
use Rattle.slotted_graph.proofs.Extending.{extends-added, extends-read, extends-then}
use Rattle.slotted_model.specs.Applied.{Applied}
use Rattle.slotted_commands.specs.Sessions.{GainsSyn, WritesTerm}
use Rattle.slotted_commands.proofs.Steps.{sound_graph, writes_term}
use Rattle.slotted_workspace.specs.Asked.{AddRefused, AddsKept, NamingRefused, text_refused}
use Rattle.slotted_workspace.specs.Asked as asked

module _ (read : List Element → Option Form) (g h : Graph) (text : List ℕ) (reads : OnlyReads g h) where
  pub term-read : (t : Term) → (IsErrOf {T = Term} {E = Error} (Ok t) Failed ↔ IsTrue g.failed) → AnswersTerm read g h text (Ok t) → (g.failed ≡ false) × WritesTerm read g text t h
  term-read t failed answer = let well = sound_graph g.failed (Ok t) t refl failed.1 in (well, writes_term read g h text reads t (answer well))

  pub text-refused : (e : Error) → (IsErrOf {T = Term} (Err e) Failed ↔ IsTrue g.failed) → (IsTrue g.failed → h ≡ g) → AnswersTerm read g h text (Err e) → AddRefused read g h text e
  text-refused e failed stays answer = by g.failed refl
    where
      by : (b : Bool) → g.failed ≡ b → AddRefused read g h text e
      by true f = asked.AddRefused.had_failed (f, stays f, ap (error_or Failed) (failed.1 f))
      by false well = text_refused well (record { reads = answer well; only = reads })

-- a slot was refused
pub naming-refused : (g h : Graph) (e : Error) → (IsErrOf {T = ℕ} (Err e) Failed ↔ IsTrue g.failed) → h ≡ g → (e ≡ Failed) ⊎ IsNamingRefusal e → NamingRefused g h e
naming-refused g h e failed same only = by g.failed refl
  where
    other : g.failed ≡ false → (e ≡ Failed) ⊎ IsNamingRefusal e → NamingRefused g h e
    other well (inl is) = absurd (false≢true (sym well ∙ failed.0 (ap Err is)))
    other well (inr r) = inr (well, same, r)

    by : (b : Bool) → g.failed ≡ b → NamingRefused g h e
    by true f = inl (f, same, ap (error_or Failed) (failed.1 f))
    by false well = other well only

-- a term that was read and added
pub extends-gained : (g h k : Graph) (t : Term) (id : Applied) → OnlyReads g h → GainsSyn h t id k → IsTrue k.failed ⊎ ExtendsTo g k
extends-gained g h k t id reads gains = inr (extends-then g h k (extends-read g h reads) (extends-added h k gains.extends gains.adds gains.more))
