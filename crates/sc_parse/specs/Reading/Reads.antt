-- What a method of the parser gives: what the reading function gives, unless memory ran out.
use Rattle.std.specs.Prelude.{◌≡◌, ℕ, max, ◌==◌, Bool, true, false, if◌then◌else◌, List, Option, Some, None, option_map, Result, Ok, Err, string_bytes, map}
use Rattle.std.specs.declared.vec.Vec.{Vec}
use Rattle.std.specs.declared.boxed.Box.{Box}
use Rattle.std.specs.declared.string.String.{String}
use Rattle.std.specs.declared.rc.Rc.{Rc}
use Rattle.std.specs.declared.alloc.Global.{Global}
use Rattle.sc_text.specs.Kind.{Kind}
use Rattle.sc_text.specs.declared.token.Terminal.{Terminal}
use Rattle.sc_text.specs.declared.token.Terminal.TheVariants as terminal
use Rattle.sc_tree.specs.declared.declaration.HandlerTag.{HandlerTag}
use Rattle.sc_tree.specs.declared.declaration.DeclaredType.{DeclaredType}
use Rattle.sc_tree.specs.declared.declaration.Declaration.{Declaration}
use Rattle.sc_tree.specs.declared.expression.Call.{Call}
use Rattle.sc_tree.specs.declared.expression.Expr.{Expr}
use Rattle.sc_tree.specs.declared.expression.Expr.TheVariants as variants
use Rattle.sc_tree.specs.declared.expression.Name.{Name}
use Rattle.sc_tree.specs.declared.instruction.Variable.{Variable}
use Rattle.sc_tree.specs.declared.instruction.CreationCall.{CreationCall}
use Rattle.sc_tree.specs.declared.instruction.Clause.{Clause}
use Rattle.sc_tree.specs.declared.instruction.Head.{Head}
use Rattle.sc_tree.specs.declared.instruction.Instr.{Instr}
use Rattle.sc_tree.specs.declared.instruction.Branch.{Branch}
use Rattle.sc_tree.specs.declared.system.FeatureKind.{FeatureKind}
use Rattle.sc_tree.specs.declared.system.Feature.{Feature}
use Rattle.sc_tree.specs.declared.system.ClassMark.{ClassMark}
use Rattle.sc_tree.specs.declared.system.Parent.{Parent}
use Rattle.sc_tree.specs.declared.system.Class.{Class}
use Rattle.sc_tree.specs.declared.system.System.{System}
use Rattle.sc_tree.specs.Plain as plain
use Rattle.sc_tree.specs.View.{name_of, handler_tag_of, type_of, type_if_any, declaration_of, expr_of, target_of, exprs_of, variable_of, creation_call_of, tag_of, clause_of, head_of, instr_of, instrs_of, branches_of, kind_of, feature_of, parent_of, mark_if_any, class_of, system_of}
use Rattle.sc_tree.specs.Grammar.Classes.{heads_class, ends_class}
use Rattle.sc_tree.specs.Grammar.Operators.{top}
use Rattle.sc_tree.specs.Internal.Reading.Looks.{Fault, Wrong, Deep, ◌>>=◌}
use Rattle.sc_parse.specs.Reading.Looks.{Ahead, Read, Taken, past, sees, skip, expect, name, integer_ahead}
use Rattle.sc_parse.specs.Reading.Assertions.{assertion}
use Rattle.sc_parse.specs.Reading.Expressions.{actuals, nested}
use Rattle.sc_parse.specs.Reading.Instructions.{other, instrs, nested_instrs}
use Rattle.sc_parse.specs.Reading.Classes.{locals, parents, creators, sections, past_note}
use Rattle.sc_parse.specs.declared.cursor.Parser.{Parser}
use Rattle.sc_parse.specs.declared.fault.ParseFault.{ParseFault}
use Rattle.sc_parse.specs.declared.fault.ParseFault.TheVariants as fault

-- the tokens that are still to be read, and where the one before them stands
abbrev pub ahead : Parser → Ahead
ahead p = record { last = p.last; rest = p.rest.now }

-- ---- the trees in memory

abbrev pub name_in : Name → plain.Name
name_in n = name_of n

abbrev pub text_in : Rc (String Global) Global → List ℕ
text_in s = string_bytes s.value

abbrev pub names_in : Vec Name Global → List plain.Name
names_in v = map name_of v.items

abbrev pub handler_tag_in : HandlerTag → plain.HandlerTag
handler_tag_in g = handler_tag_of g

abbrev pub type_in : DeclaredType → plain.DeclaredType
type_in t = type_of t

abbrev pub type_if_any_in : Option DeclaredType → Option plain.DeclaredType
type_if_any_in t = type_if_any t

abbrev pub declarations_in : Vec Declaration Global → List plain.Declaration
declarations_in v = map declaration_of v.items

abbrev pub expr_in : Expr → plain.Expr
expr_in e = expr_of e

-- an expression that is no call
abbrev pub IsNoCall : Expr → Type 0
IsNoCall e = (c : Call) → e ≡ variants.Call c → ⊥

abbrev pub target_in : Option (Box Expr Global) → plain.Target
target_in t = target_of t

abbrev pub exprs_in : Vec Expr Global → plain.Exprs
exprs_in v = exprs_of v.items

abbrev pub variable_in : Variable → plain.Variable
variable_in v = variable_of v

abbrev pub creation_call_in : Option CreationCall → Option plain.CreationCall
creation_call_in c = creation_call_of c

abbrev pub tag_in : Option Name → Option plain.Name
tag_in tag = tag_of tag

abbrev pub clause_in : Clause → plain.Clause
clause_in c = clause_of c

abbrev pub clauses_in : Vec Clause Global → List plain.Clause
clauses_in v = map clause_of v.items

abbrev pub head_in : Head → plain.Head
head_in h = head_of h

abbrev pub heads_in : Vec Head Global → List plain.Head
heads_in v = map head_of v.items

abbrev pub instr_in : Instr → plain.Instr
instr_in i = instr_of i

abbrev pub instrs_in : Vec Instr Global → plain.Instrs
instrs_in v = instrs_of v.items

abbrev pub branch_in : Branch → plain.Expr × plain.Instrs
branch_in b = (expr_in b.condition, instrs_in b.body)

abbrev pub branches_in : Vec Branch Global → plain.Branches
branches_in v = branches_of v.items

abbrev pub opening_in : Vec Clause Global × Vec Declaration Global → List plain.Clause × List plain.Declaration
opening_in p = (clauses_in p.0, declarations_in p.1)

abbrev pub closing_in : Vec Instr Global × Vec Clause Global → plain.Instrs × List plain.Clause
closing_in p = (instrs_in p.0, clauses_in p.1)

-- a feature that is exported to these classes
abbrev pub feature_with : List plain.Name → plain.Name → FeatureKind → plain.Feature
feature_with es x k = record { exports = es; name = x; kind = kind_of k }

abbrev pub features_in : Vec Feature Global → List plain.Feature
features_in v = map feature_of v.items

abbrev pub members_in : Vec Feature Global × Vec Clause Global → List plain.Feature × List plain.Clause
members_in p = (features_in p.0, clauses_in p.1)

abbrev pub mark_in : Option ClassMark → Option plain.ClassMark
mark_in m = mark_if_any m

abbrev pub parent_in : Parent → plain.Parent
parent_in p = parent_of p

abbrev pub parents_in : Vec Parent Global → List plain.Parent
parents_in v = map parent_of v.items

abbrev pub class_in : Class → plain.Class
class_in c = class_of c

abbrev pub classes_in : Vec Class Global → List plain.Class
classes_in v = map class_of v.items

abbrev pub system_in : System → plain.System
system_in s = system_of s

-- ---- what is read

-- where a note before a class ends, or one before its `end`
abbrev pub ends_note : Bool → Kind → Bool
ends_note true = heads_class
ends_note false = ends_class

-- the constant that is the next token
abbrev pub constant_ahead : Ahead → Option plain.Expr
constant_ahead ts =
    if sees terminal.True ts then Some (plain.Boolean (past ts).last true)
    else if sees terminal.False ts then Some (plain.Boolean (past ts).last false)
    else if sees terminal.Void ts then Some (plain.Void (past ts).last)
    else option_map (plain.Integer (past ts).last) (integer_ahead ts)

-- a name behind `as`
abbrev pub named_ahead : Ahead → Taken plain.Name
named_ahead ts = do
  r ← expect terminal.As ts
  name r

-- instructions that stand one deeper, up to a word
abbrev pub inside_ahead : ℕ → Terminal → Ahead → Read plain.Instrs
inside_ahead room word ts = do
  b ← nested_instrs room ts
  rest ← expect word b.2
  Ok (b.0, b.1, rest)

-- a condition that stands one deeper, up to a word
abbrev pub condition_ahead : ℕ → Terminal → Ahead → Read plain.Expr
condition_ahead room word ts = do
  t ← nested room top ts
  rest ← expect word t.2
  Ok (t.0, t.1, rest)

-- the call behind what is created, if one stands there
abbrev pub creation_call_ahead : ℕ → Ahead → Read (Option plain.CreationCall)
creation_call_ahead room ts =
    if sees terminal.Dot ts
    then (if room == 0 then Err Deep else (do
      x ← name (past ts)
      es ← actuals (nested room) x.1
      Ok (Some (record { name = x.0; actuals = es.0 }), max 1 es.1, es.2)))
    else Ok (None, 0, ts)

-- what stands under `else`, if it stands here, up to the `end` behind it
abbrev pub other_ahead : ℕ → Ahead → Read plain.Instrs
other_ahead room ts = do
  o ← other room (nested_instrs room) ts
  rest ← expect terminal.End o.2
  Ok (o.0, o.1, rest)

-- what a routine has before its body
abbrev pub opening_ahead : ℕ → Ahead → Read (List plain.Clause × List plain.Declaration)
opening_ahead room ts = do
  pre ← assertion room terminal.Require (skip terminal.Is ts)
  ls ← locals pre.2
  rest ← expect terminal.Do ls.1
  Ok ((pre.0, ls.0), pre.1, rest)

-- the body of a routine and what follows it
abbrev pub closing_ahead : ℕ → Ahead → Read (plain.Instrs × List plain.Clause)
closing_ahead room ts = do
  b ← instrs room ts
  post ← assertion room terminal.Ensure b.2
  rest ← expect terminal.End post.2
  Ok ((b.0, post.0), max b.1 post.1, rest)

-- a class from `class` up to its features: its name, parents and creators
abbrev pub header_ahead : Ahead → Taken (plain.Name × (List plain.Parent × List plain.Name))
header_ahead ts = do
  r ← expect terminal.Class ts
  x ← name r
  ps ← parents x.1
  ns ← creators ps.1
  Ok ((x.0, (ps.0, ns.0)), ns.1)

-- a class from its features on
abbrev pub members_ahead : ℕ → Ahead → Read (List plain.Feature × List plain.Clause)
members_ahead room ts = do
  fs ← sections room ts
  is ← assertion room terminal.Invariant fs.2
  rest ← expect terminal.End (past_note ends_class is.2)
  Ok ((fs.0, is.0), max fs.1 is.1, rest)

-- Reading fails as the fault says, unless memory ran out.
abbrev pub Fails : {A : Type 0} → Result A Fault → ParseFault → Type 0
Fails read (fault.NotInGrammar span) = read ≡ Err Wrong
Fails read (fault.TooDeep span) = read ≡ Err Deep
Fails read fault.OutOfMemory = Unit {0}

-- Reading gives the tree, its nesting and what is left.
abbrev pub Reads : {A X : Type 0} → (X → A) → Read A → Result (X × ℕ) ParseFault → Ahead → Type 0
Reads view read (Ok p) rest = read ≡ Ok (view p.0, p.1, rest)
Reads view read (Err e) rest = Fails read e

-- Reading gives the tree, with some nesting, and what is left.
abbrev pub Gives : {A X : Type 0} → (X → A) → Read A → Result X ParseFault → Ahead → Type 0
Gives view read (Ok x) rest = (h : ℕ) × (read ≡ Ok (view x, h, rest))
Gives view read (Err e) rest = Fails read e

-- Reading gives what holds no nested token, and what is left.
abbrev pub Takes : {A X : Type 0} → (X → A) → Taken A → Result X ParseFault → Ahead → Type 0
Takes view read (Ok x) rest = read ≡ Ok (view x, rest)
Takes view read (Err e) rest = Fails read e

-- Reading the whole gives the system.
abbrev pub ParsesAs : Result plain.System Fault → Result System ParseFault → Type 0
ParsesAs read (Ok s) = read ≡ Ok (system_in s)
ParsesAs read (Err e) = Fails read e
