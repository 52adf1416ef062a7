use Rattle.std.proofs.Common.{◌≤◌, length, arith}
use Rattle.sc_lockpass.proofs.Listings.{most_handlers-le}
use Rattle.sc_request.proofs.ChangedPlaces.{fresh_there}
use Rattle.sc_request.proofs.ReadParts.{new_there}
use Rattle.sc_request.proofs.center.Core.used.Goals as goal

pub loop-count-init : goal.loop-count-init
loop-count-init c =
    let s = c.args.self.now.state in
    let xs = s.handlers.items in
    let ss = s.sessions.items in
    let few : length xs ≤ 512 = omega (arith, s.places, s.handlers.ok.0) in
    let asked = c.larger-reach.ensures.one in
    let held = c.larger-reach.ensures.other in
    let all = c.larger-count.ensures.other in
    record {
      count = c.larger-count.ensures.one;
      few = c.larger-count.ensures.least 512 (omega (arith, s.some, most_handlers-le s.rights.version))
          (c.larger-reach.ensures.least 512 c.requires.few c.reach.ensures.most);
      new = λ h far. new_there s.count xs ss s.rights h (fresh_there xs ss c.args.asked h few c.requires.fresh (omega (arith, far, asked, all)))
          (c.reach.ensures.queue h (omega (arith, far, held, all))) (c.reach.ensures.top h (omega (arith, far, held, all)));
    }
