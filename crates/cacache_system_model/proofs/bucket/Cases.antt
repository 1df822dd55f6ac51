-- A read that ends within a line.
use Rattle.std.proofs.{Common.{◌≡◌, ℕ, false, length, List, [], ◌∷◌, ◌++◌, inr, take, drop, refl, sym, ap, ◌∙◌, append-nil}, lemmas.List.{take-append-drop}}
use Rattle.cacache_system.specs.{declared.call.CallResult.TheVariants.{Opened, Count, Bytes}, Seen.{item}, AnswersOf.{no_hint}}
use Rattle.cacache_system.specs.declared.call.SystemCall.TheVariants as asks
use Rattle.cacache_entry.specs.{Entry.{Entry, line_of, closed_line}, Bucket.{entries_of}}
use Rattle.cacache_value.proofs.MadeFolders.{torn_line}
use Rattle.cacache_system_model.specs.bucket.{File.{LineWrite, OpensToAppend, Starts, Shows, Answers, Opens, Reads, Ends, idle}, Calls.{AppendRan, ReadRan}, Cases.{in_parts, TornReadsHappen}}
use Rattle.cacache_system_model.proofs.bucket.Lookups.{entry_alone}

abbrev write_of : Entry → List ℕ → LineWrite
write_of e visible = record { process = 1; durable = false; entry = e; visible = visible }

appends_in_parts : (e : Entry) (n : ℕ) → AppendRan 1 e (length (closed_line false e)) (idle []) (in_parts e n)
appends_in_parts e n =
    let line = closed_line false e in
    let count = length line in
    let part = take n (line_of e) in
    let rest = drop n line in
    let until = Starts 1 false e ∷ Opens 2 ∷ Shows part ∷ Reads 2 part ∷ Ends 2 ∷ Shows rest ∷ [] in
    let later = until ++ Answers 1 count ∷ [] in
    record {
      hint = no_hint;
      path = [];
      durable = false;
      items = item (asks.OpenToAppend []) (Opened 3) ∷ item (asks.Write 3 line) (Count count) ∷ [];
      runs = (refl, (refl, refl));
      made = (OpensToAppend 1 ∷ [], later, refl, tt, ([], [], refl, tt), (later, [], refl, tt, (until, [], refl, (write_of e (part ++ rest), refl, refl)), refl));
    }

reads_in_parts : (e : Entry) (n : ℕ) → ReadRan 2 (take n (line_of e)) (idle []) (in_parts e n)
reads_in_parts e n =
    let part = take n (line_of e) in
    let before = OpensToAppend 1 ∷ Starts 1 false e ∷ [] in
    let after = Shows (drop n (closed_line false e)) ∷ Answers 1 (length (closed_line false e)) ∷ [] in
    let later = Shows part ∷ Reads 2 part ∷ Ends 2 ∷ after in
    record {
      hint = no_hint;
      path = [];
      items = item (asks.OpenToRead []) (Opened 4) ∷ item (asks.Read 4 2048) (Bytes []) ∷ item (asks.ReadRest 4) (Bytes part) ∷ [];
      runs = (refl, (refl, (refl, inr refl)));
      made = (
        before ++ Opens 2 ∷ [],
        later,
        refl,
        tt,
        (before, [], refl, refl),
        ([], later, refl, tt, ([], refl, refl), (later, [], refl, tt, (Shows part ∷ Reads 2 part ∷ [], after, refl, ([], refl, refl)), refl)),
      );
    }

pub torn_reads_happen : TornReadsHappen
torn_reads_happen e n formed fits short =
    let line = closed_line false e in
    let part = take n (line_of e) in
    let rest = drop n line in
    let split : line ≡ part ++ rest = sym (take-append-drop n line) ∙ ap (λ l. take n l ++ rest) (append-nil (line_of e)) in
    record {
      happen = (
        tt,
        (
          (refl, formed, fits),
          (
            refl,
            (
              (write_of e [], refl, (rest, split)),
              (
                ([], refl, ([], sym (append-nil part))),
                (
                  refl,
                  (
                    (write_of e part, refl, ([], split ∙ sym (append-nil (part ++ rest)))),
                    ((write_of e (part ++ rest), refl, refl, ap length (sym split)), tt),
                  ),
                ),
              ),
            ),
          ),
        ),
      );
      append = appends_in_parts e n;
      read = reads_in_parts e n;
      none = torn_line e n formed fits short;
      whole = ap entries_of (sym split) ∙ entry_alone false e formed fits;
    }
