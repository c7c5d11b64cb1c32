use Rattle.std.specs.Prelude.{true, string_bytes}
use Rattle.std.proofs.lemmas.Map.Text.{hash_set_updates_text}
use Rattle.slotted_certificates.proofs.distinct.see.Goals as goal

pub returns-clause-seen : goal.returns-clause-seen
returns-clause-seen c = hash_set_updates_text (string_bytes c.args.word) c.args.seen.now c.insert.new.self true c.in_ok-is_new.ensures.updates
