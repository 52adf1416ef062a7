-- The headline holds of each state that the machine on an accepted system reaches.
use Rattle.sc_machine_laws.proofs.states.MachineHolders.{machine_callbacks_come_first, machine_only_waiters_are_told, machine_replies_meet_none, machine_reserved_are_held, machine_waiters_are_told}
use Rattle.sc_machine_laws.proofs.states.MachineChains.{machine_chains_hold, machine_targets_are_kept}
use Rattle.sc_machine_laws.proofs.states.Posts.{posted_under_right}
use Rattle.sc_machine_laws.proofs.states.links.Held.{reached_formals_are_held, reached_names_are_held}
use Rattle.sc_machine_laws.proofs.states.links.Reached.{reached_stands}
use Rattle.sc_machine_laws.proofs.states.ValueAwaitedEnds.{each_non_separate_is_own, each_value_fits}
use Rattle.sc_machine_laws.proofs.Tops.{beyond_is_unused}
use Rattle.sc_machine_laws.proofs.Turned.{answers_come}
use Rattle.sc_machine_laws.proofs.Starts.{bodies_start_where_they_hold}
use Rattle.sc_machine_laws.specs.SettledObjects.{SettledMeetWhereReached}
use Rattle.sc_refines_world.specs.Refining.{MachineHasHeadline}
use Rattle.sc_refines_world.proofs.Posted.{were_posted}
use Rattle.sc_refines_world.proofs.ReachedMoves.{reached_turns_move}
use Rattle.sc_refines_world.proofs.Ownership.{reached_frames_run_on_own, reached_no_turn_is_excluded, reached_objects_are_of_classes, reached_references_lead, reached_requests_stand_at_targets}
use Rattle.sc_refines_world.proofs.Creations.{created_begin}
use Rattle.sc_refines_world.proofs.KnownNames.{reached_frames_are_typed, reached_frames_know}
use Rattle.sc_refines_world.proofs.AwaitedRequests.{reached_waiters_have_requests}

pub machine_has_headline : SettledMeetWhereReached → MachineHasHeadline
machine_has_headline settled s root faultless well most w is =
    let t = reached_stands most s root w is in
    record {
      posts_under_right = λ h k r. posted_under_right most s h w k r;
      were_posted = were_posted most s w;
      turns_move_requests = reached_turns_move s root faultless well most w is;
      turns_answer = λ g k there other. answers_come most s w g k there other;
      created_begin_with_one = created_begin most s w;
      beyond_is_unused = λ k beyond. beyond_is_unused most s root w is k beyond;
      waiters_have_requests = reached_waiters_have_requests most s root w is;
      reserved_are_held = machine_reserved_are_held t.0 w t.1 t.2;
      formals_are_held = reached_formals_are_held most s root w is;
      names_are_held = reached_names_are_held most s root w is;
      targets_are_kept = machine_targets_are_kept t.0 w t.1 t.2;
      chains_hold = machine_chains_hold t.0 w t.1 t.2;
      waiters_are_told = machine_waiters_are_told t.0 w t.1 t.2;
      only_waiters_are_told = machine_only_waiters_are_told t.0 w t.1 t.2;
      replies_meet_none = machine_replies_meet_none t.0 w t.1 t.2;
      callbacks_come_first = machine_callbacks_come_first t.0 w t.1 t.2;
      objects_are_of_classes = reached_objects_are_of_classes s root faultless well most w is;
      references_lead = reached_references_lead s root faultless well most w is;
      frames_run_on_own = reached_frames_run_on_own s root faultless well most w is;
      requests_stand_at_targets = reached_requests_stand_at_targets s root faultless well most w is;
      frames_know_their_texts = reached_frames_know s root faultless well most w is;
      frames_are_typed = reached_frames_are_typed s root faultless well most w is;
      values_fit = each_value_fits s root faultless well most w is;
      non_separate_is_own = each_non_separate_is_own s root faultless well most w is;
      settled_objects_meet = settled s root faultless well most w is;
      bodies_start_where_clauses_hold = bodies_start_where_they_hold s root faultless well most w is;
      no_turn_is_excluded = reached_no_turn_is_excluded s root faultless well most w is;
    }
