use Rattle.std.proofs.Common.{◌∙◌, None, Some, length, ap, sym, subst, set, set-set, length-set, arith}
use Rattle.std.proofs.lemmas.List.{get_or-set_same}
use Rattle.slotted_hashcons.specs.Filed.{IsNewKey, filed_of}
use Rattle.slotted_hashcons.proofs.Indexed.{new-key_taken}
use Rattle.slotted_hashcons.proofs.index.NodeIndex.refile.Goals as goal

pub file-requires-clause-within : goal.file-requires-clause-within
file-requires-clause-within g c = let within = c.requires.within in omega (arith, within, ap length c.unfile.ensures, length-set c.args.self.now c.args.class None)

pub file-requires-clause-free : goal.file-requires-clause-free
file-requires-clause-free g c = ap (λ v. filed_of v c.args.class) c.unfile.ensures ∙ get_or-set_same c.args.self.now c.args.class None None c.requires.within

pub file-requires-clause-new_key : goal.file-requires-clause-new_key
file-requires-clause-new_key g c =
    let f = g.L.LanguageChildren.form c.args.key in
    subst (λ v. IsNewKey v f) (sym c.unfile.ensures) (new-key_taken c.args.self.now c.args.class f c.requires.within c.requires.new_key)

pub returns-clause-ok : goal.returns-clause-ok
returns-clause-ok g c =
    let x = Some (g.L.LanguageChildren.form c.args.key, c.args.names) in
    c.in_ok-file.ensures.ok ∙ ap (λ v. set v c.args.class x) c.unfile.ensures ∙ set-set c.args.self.now c.args.class None x
