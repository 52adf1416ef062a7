-- Which step of the model is seen as a visible operation.
use Rattle.std.proofs.Common.{◌≡◌, ℕ, List, refl, ap}
use Rattle.sc_model.specs.declared.cause.Cause.{Cause}
use Rattle.sc_model.specs.Environments.{Binding}
use Rattle.sc_model.specs.Steps as model
use Rattle.sc_code.specs.Machine as flat
use Rattle.sc_code.specs.Stands.{Seen}

same_text : (t u : List ℕ) → flat.Prints u ≡ flat.Prints t → t ≡ u
same_text t u e = cc

same_cause : (w v : Cause) → flat.Fails v ≡ flat.Fails w → w ≡ v
same_cause w v e = cc

pub prints_is : (bs cs : List Binding) (a : model.Act) (text : List ℕ) → Seen bs cs a (flat.Prints text) → a ≡ model.Prints text
prints_is bs cs (model.Prints t) text e = ap model.Prints (same_text t text e)
prints_is bs cs model.Until text e = cc
prints_is bs cs model.Creates text e = cc
prints_is bs cs (model.CreatesHandler k x us t passing) text e = cc
prints_is bs cs (model.Enters c r x us t) text e = cc
prints_is bs cs (model.Requests r x us t passing) text e = cc
prints_is bs cs model.Starts text e = cc
prints_is bs cs (model.Refuses k) text e = cc
prints_is bs cs model.Opens text e = let no = e.2 in cc
prints_is bs cs model.Leaves text e = cc
prints_is bs cs model.Exits text e = cc
prints_is bs cs (model.Fails w) text e = cc

pub until_is : (bs cs : List Binding) (a : model.Act) → Seen bs cs a flat.Until → a ≡ model.Until
until_is bs cs (model.Prints t) e = cc
until_is bs cs model.Until e = refl
until_is bs cs model.Creates e = cc
until_is bs cs (model.CreatesHandler k x us t passing) e = cc
until_is bs cs (model.Enters c r x us t) e = cc
until_is bs cs (model.Requests r x us t passing) e = cc
until_is bs cs model.Starts e = cc
until_is bs cs (model.Refuses k) e = cc
until_is bs cs model.Opens e = let no = e.2 in cc
until_is bs cs model.Leaves e = cc
until_is bs cs model.Exits e = cc
until_is bs cs (model.Fails w) e = cc

pub starts_is : (bs cs : List Binding) (a : model.Act) → Seen bs cs a flat.Starts → a ≡ model.Starts
starts_is bs cs (model.Prints t) e = cc
starts_is bs cs model.Until e = cc
starts_is bs cs model.Creates e = cc
starts_is bs cs (model.CreatesHandler k x us t passing) e = cc
starts_is bs cs (model.Enters c r x us t) e = cc
starts_is bs cs (model.Requests r x us t passing) e = cc
starts_is bs cs model.Starts e = refl
starts_is bs cs (model.Refuses k) e = cc
starts_is bs cs model.Opens e = let no = e.2 in cc
starts_is bs cs model.Leaves e = cc
starts_is bs cs model.Exits e = cc
starts_is bs cs (model.Fails w) e = cc

pub exits_is : (bs cs : List Binding) (a : model.Act) → Seen bs cs a flat.Exits → a ≡ model.Exits
exits_is bs cs (model.Prints t) e = cc
exits_is bs cs model.Until e = cc
exits_is bs cs model.Creates e = cc
exits_is bs cs (model.CreatesHandler k x us t passing) e = cc
exits_is bs cs (model.Enters c r x us t) e = cc
exits_is bs cs (model.Requests r x us t passing) e = cc
exits_is bs cs model.Starts e = cc
exits_is bs cs (model.Refuses k) e = cc
exits_is bs cs model.Opens e = let no = e.2 in cc
exits_is bs cs model.Leaves e = cc
exits_is bs cs model.Exits e = refl
exits_is bs cs (model.Fails w) e = cc

pub fails_is : (bs cs : List Binding) (a : model.Act) (why : Cause) → Seen bs cs a (flat.Fails why) → a ≡ model.Fails why
fails_is bs cs (model.Prints t) why e = cc
fails_is bs cs model.Until why e = cc
fails_is bs cs model.Creates why e = cc
fails_is bs cs (model.CreatesHandler k x us t passing) why e = cc
fails_is bs cs (model.Enters c r x us t) why e = cc
fails_is bs cs (model.Requests r x us t passing) why e = cc
fails_is bs cs model.Starts why e = cc
fails_is bs cs (model.Refuses k) why e = cc
fails_is bs cs model.Opens why e = let no = e.2 in cc
fails_is bs cs model.Leaves why e = cc
fails_is bs cs model.Exits why e = cc
fails_is bs cs (model.Fails w) why e = ap model.Fails (same_cause w why e)

pub leaves_is : (bs cs : List Binding) (a : model.Act) → Seen bs cs a flat.Leaves → a ≡ model.Leaves
leaves_is bs cs (model.Prints t) e = cc
leaves_is bs cs model.Until e = cc
leaves_is bs cs model.Creates e = cc
leaves_is bs cs (model.CreatesHandler k x us t passing) e = cc
leaves_is bs cs (model.Enters c r x us t) e = cc
leaves_is bs cs (model.Requests r x us t passing) e = cc
leaves_is bs cs model.Starts e = cc
leaves_is bs cs (model.Refuses k) e = cc
leaves_is bs cs model.Opens e = let no = e.2 in cc
leaves_is bs cs model.Leaves e = refl
leaves_is bs cs model.Exits e = cc
leaves_is bs cs (model.Fails w) e = cc

pub creates_is : (bs cs : List Binding) (a : model.Act) → Seen bs cs a flat.Creates → a ≡ model.Creates
creates_is bs cs (model.Prints t) e = cc
creates_is bs cs model.Until e = cc
creates_is bs cs model.Creates e = refl
creates_is bs cs (model.CreatesHandler k x us t passing) e = cc
creates_is bs cs (model.Enters c r x us t) e = cc
creates_is bs cs (model.Requests r x us t passing) e = cc
creates_is bs cs model.Starts e = cc
creates_is bs cs (model.Refuses k) e = cc
creates_is bs cs model.Opens e = let no = e.2 in cc
creates_is bs cs model.Leaves e = cc
creates_is bs cs model.Exits e = cc
creates_is bs cs (model.Fails w) e = cc
