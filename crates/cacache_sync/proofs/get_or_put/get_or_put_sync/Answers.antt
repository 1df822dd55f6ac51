use Rattle.std.proofs.Common.{rules, refl, Ok, Err}
use Rattle.cacache_sync.proofs.get_or_put.get_or_put_sync.Goals as goal

pub returns-in_err-lack_of-in-Err : goal.returns-in_err-lack_of-in-Err
returns-in_err-lack_of-in-Err g c =
    record {
      gets = (c.read_sync.new.env, c.read_sync.result, c.read_sync.ensures.ran, c.read_sync.ensures.verified, rw (c.in-Err.is, ← c.lack_of.ensures, c.in_err-lack_of-in-Err.was) (refl, search rules));
    }

pub fetch-requires : goal.fetch-requires
fetch-requires g c = c.requires (c.read_sync.new.env, c.in-Err.error, c.in-Err.ensures.ran, rw (← c.lack_of.ensures, c.in_ok-lack_of-in-Err.was) refl)

pub returns-in_err-fetch : goal.returns-in_err-fetch
returns-in_err-fetch g c =
    record {
      gets = (c.read_sync.new.env, c.read_sync.result, c.read_sync.ensures.ran, c.read_sync.ensures.verified, rw (c.in-Err.is, ← c.lack_of.ensures, c.in_ok-lack_of-in-Err.was) (Err c.in_err-fetch.field-0.0, c.in_err-fetch.ensures, (refl, search rules)));
    }

pub returns : goal.returns
returns g c =
    record {
      gets = (c.read_sync.new.env, c.read_sync.result, c.read_sync.ensures.ran, c.read_sync.ensures.verified, rw (c.in-Err.is, ← c.lack_of.ensures, c.in_ok-lack_of-in-Err.was) (Ok c.in_ok-fetch.field-0, c.in_ok-fetch.ensures, c.put_bytes.ensures));
    }
