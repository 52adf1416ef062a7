-- What `check --all` answers: a line for each refusal of a system.
use Rattle.std.specs.Prelude.{ℕ, ◌≡◌, ◌⊎◌, List, [], ◌∷◌, Option, codes}
use Rattle.std.specs.List.{flat_map}
use Rattle.sc_arguments.specs.declared.arguments.CheckOptions.{CheckOptions}
use Rattle.sc_class.specs.ClassNames.{Root}
use Rattle.sc_class.specs.View.{root_of}
use Rattle.sc_frontend.specs.declared.refused.Refused.{Refused}
use Rattle.sc_frontend.specs.declared.rejection.Rejection.{Rejection}
use Rattle.sc_frontend.specs.Texts.{IsExamined, IsUnreadable}
use Rattle.sc_source.specs.Source.{File, joined}
use Rattle.sc_serve.specs.Answer.{IsRefusalOf, IsSourceOf, TellsTooLong}
use Rattle.sc_serve.specs.Refusal.{refused_line}
use Rattle.sc_serve.specs.declared.serve.Exit.{Exit}
use Rattle.sc_serve.specs.declared.serve.Exit.TheVariants as ending

-- a line for each refusal, or `ok` if there is none
abbrev pub list_text : List File → List Refused → List ℕ
list_text source [] = codes "ok\n"
list_text source (r ∷ rs) = flat_map (refused_line source) (r ∷ rs)

abbrev pub list_exit : List Refused → Exit
list_exit [] = ending.Done
list_exit (r ∷ rs) = ending.Refused

-- The answer lists all refusals of the system that the source text spells.
pub record IsListOf (source : List File) (root : Root) (output : List ℕ) (exit : Exit) : Type 0 where
  pub refused : List Refused
  pub listed : IsExamined (joined source) root refused
  pub text : output ≡ list_text source refused
  pub status : exit ≡ list_exit refused

-- The answer is this list, or the refusal of a text that spells no system.
abbrev pub IsAllOf : List File → Root → List ℕ → Exit → Type 0
IsAllOf source root output exit =
    IsListOf source root output exit
    ⊎ ((why : Rejection) × IsUnreadable (joined source) why × IsRefusalOf source why output exit)

-- The answer on files of these names, which hold `held`: an answer on their source text, or the refusal of a source
-- text that is too long.
abbrev pub IsAllOn : CheckOptions → List (List ℕ) → List (Option (List ℕ)) → List ℕ → Exit → Type 0
IsAllOn options names held output exit =
    ((source : List File) × IsSourceOf names held source × IsAllOf source (root_of options.root) output exit)
    ⊎ TellsTooLong held output exit
