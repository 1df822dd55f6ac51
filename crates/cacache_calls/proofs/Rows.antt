-- Computation proves the rows.
use Rattle.std.proofs.{Common.{◌≡◌, ℕ, true, nat_le, refl}, lemmas.Bool.{le-leb}, Math.Nat.{le_refl}}
use Rattle.cacache_calls.specs.{Steps.{content_folders, bucket_folders}, Rows.{Rows}}

whole : (n : ℕ) → nat_le n n ≡ true
whole n = le-leb n n (le_refl n)

pub rows : Rows
unfolding content_folders bucket_folders
rows = record {
  put = λ site b t u. refl;
  keyed_put = λ site key b t u fits. rw (fits, whole) refl;
  durable_put = λ site b t u. refl;
  durable_keyed_put = λ site key b t u fits. rw (fits, whole) refl;
  get = λ site key bucket bytes f finds met. rw (finds, met) refl;
  exists = λ site i. refl;
  copy = λ site key bucket to f b n finds met. rw (finds, met) refl;
  link = λ site target b. refl;
  keyed_link = λ site key target b fits. rw (fits, whole) refl;
  second_link = λ site key target b fits. rw (fits, whole) refl;
  remove_fully = λ site key bucket f finds. rw finds refl;
  ls = λ site bytes f gives. rw gives refl;
  no_ls = λ site. refl;
  clear = λ site. refl;
  plain_file = λ site. refl;
  deep = λ site. refl;
}
