-- The input was stored under the algorithm that the words name.
use Rattle.std.{proofs.Common.{ap, codes, subst}, specs.Prelude.{option_map}}
use Rattle.cacache_program.{specs.{WordWriteHash.{WritesHash}, Words.{asked_of}}, proofs.Asking.{keyed_by}}
use Rattle.cacache_program.proofs.further.run_further.Goals as goal

pub returns-in-text-default-Some-2-clause-writes :
    goal.returns-in-text-default-Some-2-clause-writes
returns-in-text-default-Some-2-clause-writes g c =
    keyed_by (asked_of c.args.words.now) _ (codes "write-hash") c.in-text-default-Some-2.name.now (λ cache name. WritesHash g.S.Store.log g.N.Names.given (g.R.Read.remaining c.args.input.now) cache name c.args.env.now c.write_hash.new.env (g.W.Write.contents c.args.output.now) (g.W.Write.contents c.write_hash.new.output) c.write_hash.result) c.parse_words.ensures
    (ap (option_map (λ k. k.now)) c.in-text-default-Some-2.is-2)
    (subst (λ name. WritesHash g.S.Store.log g.N.Names.given (g.R.Read.remaining c.args.input.now) c.parse_words.result.1.now name.now c.args.env.now c.write_hash.new.env (g.W.Write.contents c.args.output.now) (g.W.Write.contents c.write_hash.new.output) c.write_hash.result) c.in-text-default-Some-2.name-is c.write_hash.ensures.does)
