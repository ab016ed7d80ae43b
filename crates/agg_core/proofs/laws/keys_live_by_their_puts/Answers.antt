use Rattle.agg_core.proofs.LifeLaws.{put-lives, lives-put_for_good}
use Rattle.agg_core.proofs.laws.keys_live_by_their_puts.Goals as goal

pub returns : goal.returns
returns c = record {
  numbers = λ changes key. (put-lives changes key, lives-put_for_good changes key);
  values = λ changes key. (put-lives changes key, lives-put_for_good changes key);
}
