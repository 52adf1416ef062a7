use Rattle.std.proofs.Common.{IfOk, subst, sym}
use Rattle.sc_arguments.specs.declared.arguments.Invocation.{Invocation}
use Rattle.sc_serve.proofs.ServedLemmas.{all_answered, chance_answered, files_answered, replay_answered, run_answered, search_answered, tests_answered}
use Rattle.sc_serve.specs.Served.{Answers}
use Rattle.sc_serve.proofs.serve.answer_unformatted.Goals as goal

-- what is answered on files
pub returns-in-OnFiles : goal.returns-in-OnFiles
returns-in-OnFiles g c =
    let P : Invocation → Type 0 = λ what. IfOk c.answer_on_files.result (Answers (g.F.Files.bytes_of c.args.files.now) what) in
    subst P (sym c.in-OnFiles.is)
    (files_answered (g.F.Files.bytes_of c.args.files.now) c.in-OnFiles.command c.in-OnFiles.names c.answer_on_files.result
    (rw c.as_slice.ensures.value at c.answer_on_files.ensures.answer) c.answer_on_files.ensures.plain)

-- what is answered of all parts
pub returns-in-CheckAll : goal.returns-in-CheckAll
returns-in-CheckAll g c =
    let P : Invocation → Type 0 = λ what. IfOk c.answer_all_faults.result (Answers (g.F.Files.bytes_of c.args.files.now) what) in
    subst P (sym c.in-CheckAll.is)
    (all_answered (g.F.Files.bytes_of c.args.files.now) c.in-CheckAll.options c.in-CheckAll.names c.answer_all_faults.result
    (rw c.as_slice-in-CheckAll.ensures.value at c.answer_all_faults.ensures.answer) c.answer_all_faults.ensures.record c.answer_all_faults.ensures.object)

-- what is answered where a record is played
pub returns-in-Replay : goal.returns-in-Replay
returns-in-Replay g c =
    let P : Invocation → Type 0 = λ what. IfOk c.answer_replay.result (Answers (g.F.Files.bytes_of c.args.files.now) what) in
    subst P (sym c.in-Replay.is)
    (replay_answered (g.F.Files.bytes_of c.args.files.now) c.in-Replay.options c.in-Replay.names c.answer_replay.result
    (rw c.as_slice-in-Replay.ensures.value at c.answer_replay.ensures.answer) c.answer_replay.ensures.plain)

-- what is answered to a run
pub returns-in-Run : goal.returns-in-Run
returns-in-Run g c =
    let P : Invocation → Type 0 = λ what. IfOk c.answer_run.result (Answers (g.F.Files.bytes_of c.args.files.now) what) in
    subst P (sym c.in-Run.is)
    (run_answered (g.F.Files.bytes_of c.args.files.now) c.in-Run.options c.in-Run.names c.answer_run.result
    (rw c.as_slice-in-Run.ensures.value at c.answer_run.ensures.answer) c.answer_run.ensures.object)

-- what is answered to runs by chance
pub returns-in-Chance : goal.returns-in-Chance
returns-in-Chance g c =
    let P : Invocation → Type 0 = λ what. IfOk c.answer_chance.result (Answers (g.F.Files.bytes_of c.args.files.now) what) in
    subst P (sym c.in-Chance.is)
    (chance_answered (g.F.Files.bytes_of c.args.files.now) c.in-Chance.options c.in-Chance.names c.answer_chance.result
    (rw c.as_slice-in-Chance.ensures.value at c.answer_chance.ensures.answer) c.answer_chance.ensures.object)

-- what is answered to a search
pub returns-in-Search : goal.returns-in-Search
returns-in-Search g c =
    let P : Invocation → Type 0 = λ what. IfOk c.answer_search.result (Answers (g.F.Files.bytes_of c.args.files.now) what) in
    subst P (sym c.in-Search.is)
    (search_answered (g.F.Files.bytes_of c.args.files.now) c.in-Search.options c.in-Search.names c.answer_search.result
    (rw c.as_slice-in-Search.ensures.value at c.answer_search.ensures.answer) c.answer_search.ensures.object)

-- what is answered where files are laid out
pub returns-in-Layout : goal.returns-in-Layout
returns-in-Layout g c =
    let P : Invocation → Type 0 = λ what. IfOk c.answer_layout.result (Answers (g.F.Files.bytes_of c.args.files.now) what) in
    subst P (sym c.in-Layout.is) c.answer_layout.ensures

-- what is answered where tests are played
pub returns-in-Test : goal.returns-in-Test
returns-in-Test g c =
    let P : Invocation → Type 0 = λ what. IfOk c.answer_tests.result (Answers (g.F.Files.bytes_of c.args.files.now) what) in
    subst P (sym c.in-Test.is)
    (tests_answered (g.F.Files.bytes_of c.args.files.now) c.in-Test.options c.in-Test.names c.answer_tests.result
    (rw c.as_slice-in-Test.ensures.value at c.answer_tests.ensures.answer) c.answer_tests.ensures.shaped)
