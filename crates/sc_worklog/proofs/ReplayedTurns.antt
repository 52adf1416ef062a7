-- Entries that replay to a region, and their turns.
use Rattle.std.proofs.Common.{◌≡◌, ◌<◌, inl, ℕ, Bool, List, [], ◌∷◌, ◌++◌, refl, sym, ap, ◌∙◌, subst, append_assoc, append-nil, arith}
use Rattle.std.proofs.lemmas.List.Elements.{All-nil, All-push}
use Rattle.sc_code.specs.declared.program.Image.{Image}
use Rattle.sc_region.specs.declared.job.Job.{Job}
use Rattle.sc_region.specs.declared.job.Outcome.{Outcome}
use Rattle.sc_region.specs.declared.job.Want.{Want}
use Rattle.sc_region.specs.Stores.{PlainStore}
use Rattle.sc_handler.specs.declared.settlement.Settlement.{Settlement}
use Rattle.sc_play.specs.Regions.{PlainRegion, Plays, new_region}
use Rattle.sc_play.specs.Turns.{Turns, first, more}
use Rattle.sc_play.proofs.Programs.{turns_keep}
use Rattle.sc_worklog.specs.Laws.{EntriesAreTheHandlers, TurnsReplay, UnrefusedReplaysAreTurns}
use Rattle.sc_worklog.specs.Replaying.{AreMade, IsMade, IsUnrefused, Replays, entry_of, opened, played, refused}

-- ---- the entries' turns

-- those of one more entry
made_behind : (es : List Settlement) (e : Settlement) (x y z : PlainRegion) → AreMade es x y → IsMade e y z → AreMade (es ++ e ∷ []) x z
made_behind [] e x y z same made = (z, subst (λ (w : PlainRegion). IsMade e w z) same made, refl)
made_behind (d ∷ es) e x y z before made = (before.0, before.1, made_behind es e before.0 y z before.2 made)

-- a play that memory wasn't refused to makes them
made_by : (limit : ℕ) (j : Job) (o : Outcome) (x y : PlainRegion) (plays : Plays limit j x y o) → y.store ≡ plays.last → IsMade (entry_of j o) x y
made_by limit j o x y plays all = record {
  handler = plays.handler;
  turns = subst (λ (z : PlainStore). Turns x.handler x.is_told j x.store o.turns z o.want) (sym all) plays.turns;
  same = plays.same;
}

pub unrefused_replays_are_turns : UnrefusedReplaysAreTurns
unrefused_replays_are_turns p h _ _ opened none = refl
unrefused_replays_are_turns p h _ _ (played {es} {x} {y} {limit} {j} {o} before plays) none =
    made_behind es (entry_of j o) (new_region p h) x y (unrefused_replays_are_turns p h es x before none.0) (made_by limit j o x y plays none.1)
unrefused_replays_are_turns p h _ _ (refused before is) none = absurd none

-- ---- what they replay to

-- entries that replay, where no memory was refused
abbrev Whole : Image → ℕ → List Settlement → PlainRegion → Type 0
Whole p h es x = (r : Replays p h es x) × IsUnrefused p h es x r

turns_some : (h : ℕ) (is_told : Bool) (j : Job) (x : PlainStore) (n : ℕ) (y : PlainStore) (w : Want) → Turns h is_told j x n y w → 0 < n
turns_some h is_told j x _ _ _ (first {y} {w} t) = omega arith
turns_some h is_told j x _ _ _ (more {n} {y} {z} {w} before t) = omega arith

-- one more entry
whole_more : (p : Image) (h : ℕ) (es : List Settlement) (e : Settlement) (x y : PlainRegion) → Whole p h es x → IsMade e x y → Whole p h (es ++ e ∷ []) y
whole_more p h es e x y before made =
    let o : Outcome = record { handler = e.handler; turns = e.turns; want = e.want } in
    let plays : Plays e.turns e.job x y o = record {
      handler = made.handler;
      few = omega arith;
      some = turns_some x.handler x.is_told e.job x.store e.turns y.store e.want made.turns;
      last = y.store;
      turns = made.turns;
      ends = inl refl;
      same = made.same;
      program = turns_keep x.handler x.is_told e.job x.store e.turns y.store e.want made.turns;
    } in
    (played before.0 plays, (before.1, refl))

whole_behind : (p : Image) (h : ℕ) (ds es : List Settlement) (x y : PlainRegion) → Whole p h ds x → AreMade es x y → Whole p h (ds ++ es) y
whole_behind p h ds [] x y before same =
    subst (λ (es : List Settlement). Whole p h es y) (sym (append-nil ds)) (subst (λ (z : PlainRegion). Whole p h ds z) (sym same) before)
whole_behind p h ds (e ∷ es) x y before made =
    subst (λ (fs : List Settlement). Whole p h fs y) (append_assoc ds (e ∷ []) es)
    (whole_behind p h (ds ++ e ∷ []) es made.0 y (whole_more p h ds e x made.0 before made.1) made.2)

pub turns_replay : TurnsReplay
turns_replay p h es x made = whole_behind p h [] es (new_region p h) x (opened, tt) made

-- ---- whose they are

pub entries_are_the_handlers : EntriesAreTheHandlers
entries_are_the_handlers p h _ _ opened = (All-nil (λ (e : Settlement). (e.handler ≡ h) × (0 < e.turns)), refl, refl)
entries_are_the_handlers p h _ _ (played {es} {x} {y} {limit} {j} {o} before plays) =
    let at = entries_are_the_handlers p h es x before in (
      All-push (λ (e : Settlement). (e.handler ≡ h) × (0 < e.turns)) es (entry_of j o) at.0 (plays.handler ∙ at.1, plays.some),
      ap (λ (z : PlainRegion). z.handler) plays.same ∙ at.1,
      plays.program ∙ at.2,
    )
entries_are_the_handlers p h _ _ (refused {es} {x} {y} {j} before is) =
    let at = entries_are_the_handlers p h es x before in
    (at.0, ap (λ (z : PlainRegion). z.handler) is.same ∙ at.1, is.program ∙ at.2)
