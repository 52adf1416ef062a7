use Rattle.std.proofs.Common.{◌≡◌, ◌<◌, ◌∷◌, ◌++◌, [], string_bytes, length, arith, refl}
use Rattle.std.proofs.lemmas.Grind.{common_steps}
use Rattle.sc_source.specs.Internal.Files.{files_in}
use Rattle.sc_source.specs.Source as spec
use Rattle.sc_source.specs.declared.source.SourceFile.{SourceFile}
use Rattle.sc_source.proofs.SourceLemmas.{files-added, joined-added, short-added}
use Rattle.sc_source.proofs.source.Source.add.Goals as goal

pub invariant_of-self-2 : goal.invariant_of-self-2
invariant_of-self-2 c =
    let ended : string_bytes c.push.new.self ≡ string_bytes c.push_str.new.self ++ spec.line_feed ∷ [] = grind (arith, common_steps) in
    let pushed : string_bytes c.push_str.new.self ≡ string_bytes c.self.inside.text ++ c.unmarked-text.result.now = grind (arith, common_steps) in
    let file : SourceFile = record { name = c.in_ok-name.name; length = length c.unmarked-text.result.now } in
    let listed : c.push-2.new.self.items ≡ c.self.inside.files.items ++ file ∷ [] = grind (arith, common_steps) in
    let room : length c.unmarked-text.result.now < spec.room_after c.args.self.now = rw c.unmarked-text.ensures c.requires in (
      joined-added c.self.inside.files.items _ (string_bytes c.self.inside.text) _ _ c.unmarked-text.result.now file c.self.invariant.0 refl ended pushed listed,
      short-added (files_in (string_bytes c.self.inside.text) c.self.inside.files.items) c.args.self.now _ _ _ c.unmarked-text.result.now
          c.self.invariant.0 c.self.view_is room ended pushed,
    )

pub returns-clause-ok : goal.returns-clause-ok
returns-clause-ok c =
    let ended : string_bytes c.push.new.self ≡ string_bytes c.push_str.new.self ++ spec.line_feed ∷ [] = grind (arith, common_steps) in
    let pushed : string_bytes c.push_str.new.self ≡ string_bytes c.self.inside.text ++ c.unmarked-text.result.now = grind (arith, common_steps) in
    let file : SourceFile = record { name = c.in_ok-name.name; length = length c.unmarked-text.result.now } in
    let listed : c.push-2.new.self.items ≡ c.self.inside.files.items ++ file ∷ [] = grind (arith, common_steps) in
    let added = files-added c.self.inside.files.items _ (string_bytes c.self.inside.text) _ _ c.unmarked-text.result.now file c.self.invariant.0 refl ended pushed listed in
    rw (← c.in_ok-name.ensures.ok, ← c.unmarked-text.ensures, ← c.self.view_is) added
