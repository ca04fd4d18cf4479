-- Each clause is a lemma of its own.
use Rattle.buffer_pool.specs.working.Buffers.{buffer_reading}
use Rattle.pool_tests.proofs.ForgedTellings.{no_even_pop, no_forged_head, no_forged_loss, no_forged_push}
use Rattle.pool_tests.proofs.ForgedTellings.{other_first_heads_were_not}
use Rattle.pool_tests.proofs.forged.no_telling_is_forged.Goals as goal

pub returns-clause-loss : goal.returns-clause-loss
returns-clause-loss g c = no_forged_loss buffer_reading

pub returns-clause-head : goal.returns-clause-head
returns-clause-head g c = no_forged_head buffer_reading

pub returns-clause-first : goal.returns-clause-first
returns-clause-first g c = other_first_heads_were_not

pub returns-clause-push : goal.returns-clause-push
returns-clause-push g c = no_forged_push buffer_reading

pub returns-clause-pop : goal.returns-clause-pop
returns-clause-pop g c = no_even_pop buffer_reading
