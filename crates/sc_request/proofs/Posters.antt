-- Those who may hear from a handler, in its place in memory.
use Rattle.std.proofs.Common.{◌≡◌, ◌||◌, ℕ, Bool, true, false, List, [], ◌∷◌, Some, refl, sym, ap, ◌∙◌}
use Rattle.std.specs.Prelude.{map, slice_get}
use Rattle.sc_handler.specs.declared.handler.Posting.{Posting}
use Rattle.sc_handler.specs.declared.handler.Handler as coded
use Rattle.sc_handler.specs.Handlers.{Service, Handler}
use Rattle.sc_handler.specs.Changes.{to_list}
use Rattle.sc_handler.specs.InMemory.{first_posted, posting_of, service_of}
use Rattle.sc_request.specs.Tables.{handler_at}
use Rattle.sc_request.specs.Candidates.{may_hear_from, posted_first}
use Rattle.sc_request.proofs.ChangedTables.{handler_is}

served_first : (k : ℕ) (ps : List Posting) → posted_first k (map posting_of ps) ≡ posted_first k (map (λ (v : Service). v.posted) (map service_of ps))
served_first k [] = refl
served_first k (p ∷ ps) = refl

callback_first : (k : ℕ) (ps : List Posting) → posted_first k (map posting_of ps) ≡ posted_first k (to_list (first_posted ps))
callback_first k [] = refl
callback_first k (p ∷ ps) = refl

any_of_three : (a b c d : Bool) → (a || (b || (c || d))) ≡ ((a || (b || c)) || d)
any_of_three true b c d = refl
any_of_three false true c d = refl
any_of_three false false c d = refl

pub touched_posters : (x : coded.Handler) (xs : List coded.Handler) (sessions : List ℕ) (h k : ℕ) (old m n new : Bool) → slice_get xs h ≡ Some x →
    m ≡ (posted_first k (map posting_of x.callback) || old) → n ≡ (posted_first k (map posting_of x.queue) || m) →
    new ≡ (posted_first k (map posting_of x.services) || n) → new ≡ (may_hear_from (handler_at xs sessions h) k || old)
touched_posters x xs sessions h k old m n new e first second third =
    let q = posted_first k (map posting_of x.queue) in
    let s = posted_first k (map posting_of x.services) in
    let c = posted_first k (to_list (first_posted x.callback)) in
    third ∙ ap (λ b. s || b) second ∙ ap (λ b. s || (q || b)) first ∙ ap (λ b. s || (q || (b || old))) (callback_first k x.callback)
    ∙ ap (λ b. b || (q || (c || old))) (served_first k x.services) ∙ any_of_three _ q c old
    ∙ ap (λ (y : Handler). may_hear_from y k || old) (sym (handler_is xs sessions h x e))

none_or : (b : Bool) → false ≡ (b || false) → b ≡ false
none_or true e = sym e
none_or false e = refl

pub hears_from_none : (x : coded.Handler) (xs : List coded.Handler) (sessions : List ℕ) (h k : ℕ) → slice_get xs h ≡ Some x →
    posted_first k (map posting_of x.callback) ≡ false → posted_first k (map posting_of x.queue) ≡ false →
    posted_first k (map posting_of x.services) ≡ false → may_hear_from (handler_at xs sessions h) k ≡ false
hears_from_none x xs sessions h k e callback queue services =
    none_or (may_hear_from (handler_at xs sessions h) k)
    (touched_posters x xs sessions h k false false false false e (sym (ap (λ b. b || false) callback)) (sym (ap (λ b. b || false) queue))
    (sym (ap (λ b. b || false) services)))
