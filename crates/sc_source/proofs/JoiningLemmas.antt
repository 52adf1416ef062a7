-- What readers have given.
use Rattle.std.proofs.Common.{◌≡◌, ℕ, zero, suc, ◌+◌, ◌-◌, ◌<◌, ◌≤◌, List, [], ◌∷◌, ◌++◌, map, take, get_or, set, Option, Some, None, length, IfSome, IsErrAnd, MatchResult, Ok, Err, Result, drop, subst, ap, ◌∙◌, append_assoc, arith, refl, sym, IfErr, ◌⊎◌, inr, true, false}
use Rattle.std.proofs.lemmas.Grind.{common_steps}
use Rattle.std.specs.Io.KnownBytes.{Consumes, IsAtEnd}
use Rattle.std.specs.Str.{IsUtf8}
use Rattle.std.specs.List.{All}
use Rattle.sc_source.specs.declared.join.SourceFault.{SourceFault}
use Rattle.sc_source.specs.declared.reading.FileFault.{FileFault}
use Rattle.sc_source.specs.declared.source.JoinFault.{JoinFault}
use Rattle.sc_source.specs.declared.reading.FileFault.TheVariants as file_fault
use Rattle.std.proofs.lemmas.List.{take-append-le, take_all, take_more, take_more_set, drop-drop, drop-set-lt, get_or-drop, map_more, length-map, get_or-map, map-append, length-append}
use Rattle.std.proofs.lemmas.List.Elements.{All-get_or, All-push}
use Rattle.sc_text.specs.Spelling.{max_source_bytes}
use Rattle.sc_source.specs.Source.{File, joined_texts, line_feed, room_after, texts_of, names_of, unmarked}
use Rattle.sc_source.specs.Joining.{AreSound, AreTold, IsFileFault, IsJoinFault, IsReaderFault, IsSourceFault, names_for, no_memory, source_fault, source_text, TakesAtMost}
use Rattle.sc_source.specs.Internal.Blocks.{TakesMore}
use Rattle.sc_source.proofs.SourceLemmas.{short-push}

-- bytes that are given after others
pub consumes-both : (first mid last : Option (List ℕ)) (xs ys : List ℕ) →
    Consumes first mid xs → Consumes mid last ys → Consumes first last (xs ++ ys)
consumes-both None mid last xs ys one two = tt
consumes-both (Some os) None last xs ys one two = absurd one
consumes-both (Some os) (Some bs) None xs ys one two = absurd two
consumes-both (Some os) (Some bs) (Some cs) xs ys one two = grind (arith, common_steps)

-- with what was given before, no more than `most`
pub takes-in-all : (most more : ℕ) (first mid last : Option (List ℕ)) (before after : List ℕ) →
    Consumes first mid before → TakesMore more mid last before after → length before + more ≤ most →
    TakesAtMost most first last
takes-in-all most more first mid last before after one more-of-it within =
    let few : length more-of-it.0 ≤ more = more-of-it.1.0 in
    let size : length (before ++ more-of-it.0) ≡ length before + length more-of-it.0 = length-append before more-of-it.0 in
    (before ++ more-of-it.0, (rw size (omega arith), consumes-both first mid last before more-of-it.0 one more-of-it.1.1.1))

-- ---- the files of a system

-- one more file that is sound
pub sound-more : (files : List (List ℕ)) (i : ℕ) (source more : List File) (name : List ℕ) →
    i < length files → AreSound (take i files) → texts_of source ≡ map unmarked (take i files) →
    IsUtf8 (get_or files i []) → length (unmarked (get_or files i [])) < room_after source →
    more ≡ source ++ record { name = name; text = unmarked (get_or files i []) } ∷ [] →
    AreSound (take (i + 1) files) × (texts_of more ≡ map unmarked (take (i + 1) files))
sound-more files i source more name below sound texts utf8 room added =
    let file = get_or files i [] in
    let split : take (i + 1) files ≡ take i files ++ file ∷ [] = take_more files i [] below in
    let mapped : map unmarked (take (i + 1) files) ≡ map unmarked (take i files) ++ unmarked file ∷ [] = map_more unmarked files i [] below in
    let pushed : texts_of more ≡ texts_of source ++ unmarked file ∷ [] =
    rw added (map-append (λ f. f.text) source (record { name = name; text = unmarked file } ∷ [])) in
    let is : texts_of more ≡ map unmarked (take (i + 1) files) = rw (pushed, texts) (sym mapped) in
    let short : length (source_text (take (i + 1) files)) ≤ max_source_bytes =
    rw (← is) (short-push source more (record { name = name; text = unmarked file }) room added) in
    (record { utf8 = rw split (All-push IsUtf8 (take i files) file sound.utf8 utf8); short = short }, is)

-- as many files as readers
pub told-length : {R : Type 0} (remaining : R → Option (List ℕ)) (readers : List R) (files : List (List ℕ)) →
    AreTold (map remaining readers) files → length files ≡ length readers
told-length remaining readers files told = sym (length-map files Some) ∙ (ap length (sym told) ∙ length-map readers remaining)

-- what a reader tells is the file at its place
pub told-at : {R : Type 0} (remaining : R → Option (List ℕ)) (readers : List R) (files : List (List ℕ)) (i : ℕ) (r : R) →
    AreTold (map remaining readers) files → i < length readers → remaining (get_or readers i r) ≡ Some (get_or files i [])
told-at remaining readers files i r told below =
    let within : i < length files = rw (told-length remaining readers files told) below in
    sym (get_or-map remaining readers i r (Some []) below) ∙ (ap (λ xs. get_or xs i (Some [])) told ∙ get_or-map Some files i [] (Some []) within)

-- the same where the readers from this one on are as they were
pub told-now : {R : Type 0} (remaining : R → Option (List ℕ)) (initial now : List R) (files : List (List ℕ)) (i : ℕ) (r : R) →
    AreTold (map remaining initial) files → i < length now → length now ≡ length initial → drop i now ≡ drop i initial →
    (i < length files) × (remaining (get_or now i r) ≡ Some (get_or files i []))
told-now remaining initial now files i r told below same unread =
    let inside : i < length initial = rw (← same) below in
    let zero : i + 0 ≡ i = omega arith in
    let left : get_or (drop i now) 0 r ≡ get_or now i r = get_or-drop i now 0 r ∙ ap (λ n. get_or now n r) zero in
    let right : get_or (drop i initial) 0 r ≡ get_or initial i r = get_or-drop i initial 0 r ∙ ap (λ n. get_or initial n r) zero in
    let both : get_or now i r ≡ get_or initial i r = sym left ∙ (ap (λ xs. get_or xs 0 r) unread ∙ right) in (
      rw (told-length remaining initial files told) inside,
      ap remaining both ∙ told-at remaining initial files i r told inside,
    )

-- the readers after one that was read from are as they were
pub unread-more : {R : Type 0} (initial now : List R) (i : ℕ) (r : R) → drop i now ≡ drop i initial →
    drop (i + 1) (set now i r) ≡ drop (i + 1) initial
unread-more initial now i r unread =
    let past : i < i + 1 = omega arith in
    drop-set-lt (i + 1) now i r past ∙ (sym (drop-drop 1 i now) ∙ (ap (λ xs. drop 1 xs) unread ∙ drop-drop 1 i initial))

-- and it is at its end
pub ended-more : {R : Type 0} (P : R → Type 0) (readers : List R) (i : ℕ) (r : R) → i < length readers →
    All P (take i readers) → P r → All P (take (i + 1) (set readers i r))
ended-more P readers i r below before this = rw (take_more_set readers i r below) (All-push P (take i readers) r before this)

-- the step of the loop over the readers
pub joined-more : (files : List (List ℕ)) (i : ℕ) (source more : List File) (name : List ℕ) (known : Option (List ℕ)) →
    i < length files → known ≡ Some (get_or files i []) →
    AreSound (take i files) × (texts_of source ≡ map unmarked (take i files)) →
    IfSome known (λ file. IsUtf8 file × ((length (unmarked file) < room_after source)
    × (more ≡ source ++ record { name = name; text = unmarked file } ∷ []))) →
    AreSound (take (i + 1) files) × (texts_of more ≡ map unmarked (take (i + 1) files))
joined-more files i source more name known below is so-far read =
    let this = rw is at read in
    sound-more files i source more name below so-far.0 so-far.1 this.0 this.1.0 this.1.1

-- the fault of the file at which the loop stops
pub fault-at : (files : List (List ℕ)) (i : ℕ) (source : List File) (known : Option (List ℕ)) (fault : FileFault) →
    i < length files → known ≡ Some (get_or files i []) →
    AreSound (take i files) × (texts_of source ≡ map unmarked (take i files)) →
    IfSome known (λ file. IsFileFault file (room_after source) fault) →
    IsJoinFault files (record { file = i; fault = fault })
fault-at files i source known fault below is so-far read =
    let this = rw is at read in
    record { before = so-far.0; here = below; true_of_it = rw so-far.1 at this }

-- ---- faults

pub joined_texts-push : (ts : List (List ℕ)) (t : List ℕ) → joined_texts (ts ++ t ∷ []) ≡ joined_texts ts ++ (t ++ (line_feed ∷ []))
joined_texts-push [] t = refl
joined_texts-push (u ∷ us) t = simp (joined_texts-push us t, append_assoc)

-- the source text of one file more
pub length-more : (files : List (List ℕ)) (i : ℕ) → i < length files →
    length (source_text (take (i + 1) files)) ≡ length (source_text (take i files)) + (length (unmarked (get_or files i [])) + 1)
length-more files i below =
    let text : source_text (take (i + 1) files) ≡ source_text (take i files) ++ (unmarked (get_or files i []) ++ (line_feed ∷ [])) =
    rw (map_more unmarked files i [] below) (joined_texts-push (map unmarked (take i files)) (unmarked (get_or files i []))) in
    rw text (grind (arith, common_steps))

-- what a fault says of the files
pub told-fault : {R : Type 0} (old new : List R) (files : List (List ℕ)) (i : ℕ) (fault : FileFault) →
    IsJoinFault files (record { file = i; fault = fault }) → drop (i + 1) new ≡ drop (i + 1) old →
    IsSourceFault old new files (source_fault (record { file = i; fault = fault }))
told-fault old new files i (file_fault.Unreadable error) is unread =
    record { before = is.before; here = is.here; unread = unread }
told-fault old new files i (file_fault.NotUtf8 offset) is unread =
    let size = length-more files i is.here in
    let fits : length (source_text (take i files)) ≤ max_source_bytes = is.before.short in
    let few : length (unmarked (get_or files i [])) < max_source_bytes - length (source_text (take i files)) = is.true_of_it.0 in
    let short : length (source_text (take (i + 1) files)) ≤ max_source_bytes = rw size (omega arith) in
    (record { before = is.before; here = is.here; unread = unread }, (is.true_of_it.1.0, short))
told-fault old new files i file_fault.TooLong is unread =
    let size = length-more files i is.here in
    let many : max_source_bytes - length (source_text (take i files)) ≤ length (unmarked (get_or files i [])) = is.true_of_it in
    let long : max_source_bytes < length (source_text (take (i + 1) files)) = rw size (omega arith) in
    (i, (record { before = is.before; here = is.here; unread = unread }, long))
told-fault old new files i file_fault.OutOfMemory is unread = tt

-- the error of a result that has one
pub told-error : {T : Type 0} (P : T → Type 0) (Q : SourceFault → Type 0) (r : Result T SourceFault) (fault : SourceFault) →
    IsErrAnd r (λ e. e ≡ fault) → Q fault → MatchResult r P Q
told-error P Q (Ok t) fault is q = absurd is
told-error P Q (Err e) fault is q = subst Q (sym is) q

-- ---- names

-- the name of one file more
names_for-next : (names : List (List ℕ)) (n : ℕ) → names_for names (suc n) ≡ names_for names n ++ get_or names n [] ∷ []
names_for-next [] zero = refl
names_for-next (x ∷ xs) zero = refl
names_for-next [] (suc n) = ap (λ ns. [] ∷ ns) (names_for-next [] n)
names_for-next (x ∷ xs) (suc n) = ap (λ ns. x ∷ ns) (names_for-next xs n)

-- the step of the loop over the readers
pub named-more : (names : List (List ℕ)) (i : ℕ) (source more : List File) (name : List ℕ) → names_of source ≡ names_for names i →
    name ≡ get_or names i [] → names_of more ≡ names_of source ++ name ∷ [] → names_of more ≡ names_for names (i + 1)
named-more names i source more name so-far is added =
    let next : suc i ≡ i + 1 = omega arith in
    added ∙ ap (λ ns. ns ++ name ∷ []) so-far ∙ ap (λ x. names_for names i ++ x ∷ []) is ∙ sym (names_for-next names i) ∙ ap (names_for names) next

-- as many names as files
pub named-all : (names : List (List ℕ)) → names_for names (length names) ≡ names
named-all [] = refl
named-all (x ∷ xs) = ap (λ ns. x ∷ ns) (named-all xs)

-- ---- a text at the limit

-- the first files have no longer a source text than all
take-short : (files : List (List ℕ)) (i : ℕ) → length (source_text (take i files)) ≤ length (source_text files)
take-short [] i = grind (arith, common_steps)
take-short (f ∷ fs) zero = omega arith
take-short (f ∷ fs) (suc i) =
    let others = take-short fs i in
    grind (arith, common_steps, others)

-- sound files are kept from being joined by their readers alone
pub fault-of-sound : (files : List (List ℕ)) (i : ℕ) (fault : FileFault) → IsJoinFault files (record { file = i; fault = fault }) →
    AreSound files → IsReaderFault fault
fault-of-sound files i (file_fault.Unreadable error) is sound = is.true_of_it
fault-of-sound files i file_fault.OutOfMemory is sound = tt
fault-of-sound files i (file_fault.NotUtf8 offset) is sound = is.true_of_it.1.0 (All-get_or IsUtf8 files i [] is.here sound.utf8)
fault-of-sound files i file_fault.TooLong is sound =
    let size = length-more files i is.here in
    let many : max_source_bytes - length (source_text (take i files)) ≤ length (unmarked (get_or files i [])) = is.true_of_it in
    let part = take-short files (i + 1) in
    let short : length (source_text files) ≤ max_source_bytes = sound.short in
    omega (arith, size, many, part, short)

-- The file at fault is one of those that have names, where there are as many.
pub which-name : {A : Type 0} (r : Result A JoinFault) (n m : ℕ) → n ≡ m →
    IfErr r (λ why. why.file < n) → IfErr r (λ why. (why.fault ≡ no_memory) ⊎ (why.file < m))
which-name (Ok source) n m e f = tt
which-name (Err why) n m e f = inr (omega (arith, e, f))

-- ---- files by name

-- one more reader, which has all of the file of the next name left
pub told-more : {A B : Type 0} (left : A → Option (List ℕ)) (of : B → Option (List ℕ)) (readers now : List A) (names : List B) (i : ℕ) (x : A) (name : B) →
    now ≡ readers ++ x ∷ [] → i < length names → map left readers ≡ map of (take i names) → left x ≡ of (get_or names i name) →
    map left now ≡ map of (take (i + 1) names)
told-more left of readers now names i x name is below so-far this =
    let pushed : map left now ≡ map left readers ++ (left x ∷ []) = ap (λ xs. map left xs) is ∙ map-append left readers (x ∷ []) in
    let more : map of (take (i + 1) names) ≡ map of (take i names) ++ of (get_or names i name) ∷ [] = map_more of names i name below in
    pushed ∙ (ap (λ ys. ys ++ (left x ∷ [])) so-far ∙ (ap (λ y. map of (take i names) ++ (y ∷ [])) this ∙ sym more))

-- a reader for each name: what they tell is what the files of these names have
pub told-all : {A B : Type 0} (left : A → Option (List ℕ)) (of : B → Option (List ℕ)) (readers now : List A) (names : List B) (i : ℕ) (files : List (List ℕ)) →
    now ≡ readers → i ≡ length names → map left readers ≡ map of (take i names) → AreTold (map of names) files → AreTold (map left now) files
told-all left of readers now names i files same many so-far told =
    let within : length names ≤ i = omega arith in
    let all : take i names ≡ names = take_all i names within in
    ap (λ xs. map left xs) same ∙ (so-far ∙ (ap (λ xs. map of xs) all ∙ told))

-- a fault that is told is one of two kinds
pub or-fault : {A E : Type 0} (r : Result A E) (P : A → Type 0) (Q R : E → Type 0) → MatchResult r P R → MatchResult r P (λ e. Q e ⊎ R e)
or-fault (Ok x) P Q R it = it
or-fault (Err e) P Q R it = inr it

-- what is said to be too long is, with the files behind it
pub long-source : (files : List (List ℕ)) (why : JoinFault) → IsJoinFault files why → why.fault ≡ file_fault.TooLong →
    max_source_bytes < length (source_text files)
long-source files why is long =
    let told : IsFileFault (get_or files why.file []) (max_source_bytes - length (source_text (take why.file files))) file_fault.TooLong =
    rw long at is.true_of_it in
    let size = length-more files why.file is.here in
    let many : max_source_bytes - length (source_text (take why.file files)) ≤ length (unmarked (get_or files why.file [])) = told in
    let part = take-short files (why.file + 1) in
    omega (arith, size, many, part)

-- ---- the length of one file

-- what is true of the bytes that were given is true of the file, where they are all of it
pub told-of : (P : List ℕ → Type 0) (known : Option (List ℕ)) (bytes : List ℕ) → IfSome known (λ told. bytes ≡ told) → P bytes → IfSome known P
told-of P None bytes whole it = tt
told-of P (Some file) bytes whole it = subst P whole it

-- a file whose text is short has no long one
pub short-told : (room : ℕ) (known : Option (List ℕ)) (bytes : List ℕ) → IfSome known (λ told. bytes ≡ told) → length (unmarked bytes) < room →
    IfSome known (λ told. room ≤ length (unmarked told) → false ≡ true)
short-told room None bytes whole short = tt
short-told room (Some file) bytes whole short = λ long.
    let less : length (unmarked file) < room = rw (← whole) short in
    let none : ⊥ = omega (arith, less, long) in
    absurd none

-- they are all of it, where the reader is at its end
pub whole-told : (most : ℕ) (first mid last : Option (List ℕ)) (before after : List ℕ) →
    Consumes first mid before → TakesMore most mid last before after → IsAtEnd last → IfSome first (λ told. after ≡ told)
whole-told most None mid last before after one more end = tt
whole-told most (Some os) None last before after one more end = absurd one
whole-told most (Some os) (Some bs) None before after one more end = absurd more.1.1.1
whole-told most (Some os) (Some bs) (Some cs) before after one more end =
    let added : after ≡ before ++ more.0 = more.1.1.0 in
    let given : bs ≡ more.0 ++ cs = more.1.1.1 in
    let none : cs ≡ [] = end in
    grind (arith, common_steps)

-- the text of a file is as long at least as that of each is that begins with the bytes that were given
pub long-told : (room least : ℕ) (first now : Option (List ℕ)) (bytes : List ℕ) → Consumes first now bytes →
    ((rest : List ℕ) → least ≤ length (unmarked (bytes ++ rest))) → room ≤ least →
    IfSome first (λ told. room ≤ length (unmarked told))
long-told room least None now bytes given all long = tt
long-told room least (Some file) None bytes given all long = absurd given
long-told room least (Some file) (Some left) bytes given all long =
    let this : least ≤ length (unmarked (bytes ++ left)) = all left in
    rw given (omega (arith, this, long))

-- so it isn't shorter
pub not-short : (room : ℕ) (known : Option (List ℕ)) → IfSome known (λ told. room ≤ length (unmarked told)) →
    IfSome known (λ told. length (unmarked told) < room → ⊥)
not-short room None long = tt
not-short room (Some file) long = λ short. omega (arith, long, short)

-- what holds in any case holds of a file that is known
pub of-known : (P : List ℕ → Type 0) (known : Option (List ℕ)) → ((told : List ℕ) → P told) → IfSome known P
of-known P None all = tt
of-known P (Some file) all = all file

-- ---- the beginning of a file

-- so many bytes as were given are its beginning
pub beginning-taken : (most : ℕ) (old new : Option (List ℕ)) (bytes : List ℕ) → Consumes old new bytes →
    length bytes ≤ most → most ≤ length bytes → IfSome old (λ told. bytes ≡ take most told)
beginning-taken most None new bytes given short long = tt
beginning-taken most (Some os) None bytes given short long = absurd given
beginning-taken most (Some os) (Some left) bytes given short long =
    rw given (sym (take-append-le most bytes left long ∙ take_all most bytes short))

-- a file that has no more bytes is its own beginning
pub beginning-whole : (most : ℕ) (old : Option (List ℕ)) (bytes : List ℕ) → IfSome old (λ told. bytes ≡ told) →
    length bytes ≤ most → IfSome old (λ told. bytes ≡ take most told)
beginning-whole most None bytes same short = tt
beginning-whole most (Some os) bytes same short = same ∙ sym (take_all most os (rw (← same) short))
