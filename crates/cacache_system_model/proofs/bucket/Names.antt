-- What readers of a bucket read while its name may be removed: each file's events are those of one file.
use Rattle.std.proofs.{Common.{◌≡◌, ◌==◌, ℕ, Bool, true, false, if◌then◌else◌, List, [], ◌∷◌, ◌++◌, None, Some, refl, sym, ap, subst, ◌∙◌}, lemmas.Bool.{eqb-true, eq-eqb}}
use Rattle.cacache_system_model.specs.bucket.{File.{BucketFile, Event, OpensToAppend, Answers, Opens, Ends, idle, next, file_after, MayHappen, Happen}, Moments.{answer_to_end}, Names.{BucketName, NameEvent, Makes, Removes, At, named, first_bytes, next_name, name_after, HappenNamed, of_file, events_of, NoneRemoves, NamedReadsAreMoments, to_answer, named_to_end, NamedAnsweredAreRead}}
use Rattle.cacache_system_model.proofs.bucket.Moments.{same_some, reads_are_moments, answered_are_read}

-- ---- the events of one file

stepped : (b : Bool) (f : BucketFile) (e : Event) (es : List Event) → file_after (if b then next f e else f) es ≡ file_after f (if b then e ∷ es else es)
stepped true f e es = refl
stepped false f e es = refl

pub files_after : (s : BucketName) (events : List NameEvent) (i : ℕ) → (name_after s events).files i ≡ file_after (s.files i) (events_of i events)
files_after s [] i = refl
files_after s (At j e ∷ es) i = files_after (next_name s (At j e)) es i ∙ stepped (i == j) (s.files i) e (events_of i es)
files_after s (e ∷ es) i = files_after (next_name s e) es i

happen_stepped : (b : Bool) (f : BucketFile) (e : Event) (es : List Event) → (b ≡ true → MayHappen f e) → Happen (if b then next f e else f) es → Happen f (if b then e ∷ es else es)
happen_stepped true f e es can happen = (can refl, happen)
happen_stepped false f e es can happen = happen

pub file_happens : (s : BucketName) (events : List NameEvent) (i : ℕ) → HappenNamed s events → Happen (s.files i) (events_of i events)
file_happens s [] i happen = tt
file_happens s (At j e ∷ es) i happen =
    happen_stepped (i == j) (s.files i) e (events_of i es) (λ is. subst (λ k. MayHappen (s.files k) e) (sym (eqb-true i j is)) happen.0.2)
    (file_happens (next_name s (At j e)) es i happen.1)
file_happens s (e ∷ es) i happen = file_happens (next_name s e) es i happen.1

either_append : (b : Bool) (e : Event) (xs ys : List Event) → (if b then e ∷ (xs ++ ys) else (xs ++ ys)) ≡ (if b then e ∷ xs else xs) ++ ys
either_append true e xs ys = refl
either_append false e xs ys = refl

pub events_of-append : (i : ℕ) (xs ys : List NameEvent) → events_of i (xs ++ ys) ≡ events_of i xs ++ events_of i ys
events_of-append i [] ys = refl
events_of-append i (At j e ∷ xs) ys = ap (of_file i (At j e)) (events_of-append i xs ys) ∙ either_append (i == j) e (events_of i xs) (events_of i ys)
events_of-append i (e ∷ xs) ys = events_of-append i xs ys

-- the file's own event among them
own : (i : ℕ) (e : Event) (es : List Event) → of_file i (At i e) es ≡ e ∷ es
own i e es = ap (λ b. if b then e ∷ es else es) (eq-eqb i i refl)

own_after : (i : ℕ) (xs ys : List NameEvent) (e : Event) → events_of i (xs ++ At i e ∷ ys) ≡ events_of i xs ++ e ∷ events_of i ys
own_after i xs ys e = events_of-append i xs (At i e ∷ ys) ∙ ap (λ l. events_of i xs ++ l) (own i e (events_of i ys))

-- ---- reads

pub named_reads_are_moments : NamedReadsAreMoments
named_reads_are_moments start before during after i reader happen =
    let first = before ++ At i (Opens reader) ∷ during in
    let same : events_of i (first ++ At i (Ends reader) ∷ after) ≡ (events_of i before ++ Opens reader ∷ events_of i during) ++ Ends reader ∷ events_of i after =
    own_after i first after (Ends reader) ∙ ap (λ l. l ++ Ends reader ∷ events_of i after) (own_after i before during (Opens reader)) in
    reads_are_moments (first_bytes start i) (events_of i before) (events_of i during) (events_of i after) reader
    (subst (Happen (idle (first_bytes start i))) same (file_happens (named start) (first ++ At i (Ends reader) ∷ after) i happen))

-- ---- writes that answered

name_after-append : (s : BucketName) (xs ys : List NameEvent) → name_after s (xs ++ ys) ≡ name_after (name_after s xs) ys
name_after-append s [] ys = refl
name_after-append s (e ∷ xs) ys = name_after-append (next_name s e) xs ys

name_happens-append : (s : BucketName) (xs ys : List NameEvent) → HappenNamed s (xs ++ ys) → HappenNamed s xs × HappenNamed (name_after s xs) ys
name_happens-append s [] ys happen = (tt, happen)
name_happens-append s (e ∷ xs) ys happen = let more = name_happens-append (next_name s e) xs ys happen.1 in ((happen.0, more.0), more.1)

-- where nobody removes the name, it leads to the same file
name_kept : (s : BucketName) (events : List NameEvent) (i : ℕ) → HappenNamed s events → NoneRemoves events → s.file ≡ Some i → (name_after s events).file ≡ Some i
name_kept s [] i happen none is = is
name_kept s (Makes j ∷ es) i happen none is = let differ : Some i ≡ None = sym is ∙ happen.0.0 in absurd cc
name_kept s (Removes ∷ es) i happen none is = absurd none
name_kept s (At j e ∷ es) i happen none is = name_kept (next_name s (At j e)) es i happen.1 none is

same_file : (start : List ℕ) (early writing middle during after : List NameEvent) (number process n other reader : ℕ)
    → HappenNamed (named start) ((to_answer number process early writing ++ named_to_end number process n middle other reader during) ++ At other (Ends reader) ∷ after)
    → NoneRemoves writing → NoneRemoves middle → other ≡ number
same_file start early writing middle during after number process n other reader happen calm quiet =
    let s = named start in
    let first = to_answer number process early writing in
    let rest = named_to_end number process n middle other reader during in
    let p = name_happens-append s (first ++ rest) (At other (Ends reader) ∷ after) happen in
    let q = name_happens-append s first rest p.0 in
    let answered = next_name (name_after s first) (At number (Answers process n)) in
    let r = name_happens-append answered middle (At other (Opens reader) ∷ during) q.1.1 in
    let w = name_happens-append s early (At number (OpensToAppend process) ∷ writing) q.0 in
    let wanted = next_name (name_after s early) (At number (OpensToAppend process)) in
    let kept : (name_after s first).file ≡ Some number =
    ap (λ (m : BucketName). m.file) (name_after-append s early (At number (OpensToAppend process) ∷ writing)) ∙ name_kept wanted writing number w.1.1 calm w.1.0.1 in
    same_some (name_after answered middle).file number other (name_kept answered middle number r.0 quiet kept) r.1.0.1

pub named_answered_are_read : NamedAnsweredAreRead
named_answered_are_read start early writing middle during after number process n other reader w bytes happen calm quiet is long read =
    let s = named start in
    let begun = first_bytes start number in
    let first = to_answer number process early writing in
    let rest = λ (k : ℕ). named_to_end number process n middle k reader during in
    let same = same_file start early writing middle during after number process n other reader happen calm quiet in
    let happen' : HappenNamed s ((first ++ rest number) ++ At number (Ends reader) ∷ after) =
    subst (λ k. HappenNamed (named start) ((to_answer number process early writing ++ named_to_end number process n middle k reader during) ++ At k (Ends reader) ∷ after)) same happen in
    let read' : ((name_after s (first ++ rest number)).files number).read reader ≡ Some bytes =
    subst (λ k. ((name_after (named start) (to_answer number process early writing ++ named_to_end number process n middle k reader during)).files k).read reader ≡ Some bytes) same read in
    let parts : events_of number (first ++ rest number) ≡ events_of number first ++ answer_to_end process n (events_of number middle) reader (events_of number during) =
    own_after number first (middle ++ At number (Opens reader) ∷ during) (Answers process n)
    ∙ ap (λ l. events_of number first ++ Answers process n ∷ l) (own_after number middle during (Opens reader)) in
    let all : events_of number ((first ++ rest number) ++ At number (Ends reader) ∷ after)
    ≡ (events_of number first ++ answer_to_end process n (events_of number middle) reader (events_of number during)) ++ Ends reader ∷ events_of number after =
    own_after number (first ++ rest number) after (Ends reader) ∙ ap (λ l. l ++ Ends reader ∷ events_of number after) parts in
    record {
      same = same;
      has =
          answered_are_read begun (events_of number first) (events_of number middle) (events_of number during) (events_of number after) process n reader w bytes
          (subst (Happen (idle begun)) all (file_happens s ((first ++ rest number) ++ At number (Ends reader) ∷ after) number happen'))
          (ap (λ (f : BucketFile). f.writing) (sym (files_after s first number)) ∙ is)
          long
          (ap (λ (f : BucketFile). f.read reader) (sym (files_after s (first ++ rest number) number ∙ ap (file_after (idle begun)) parts)) ∙ read');
    }
