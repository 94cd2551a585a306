use Rattle.saved_run.proofs.Futures.{edited-has_true_start, states-same}
use Rattle.saved_run.proofs.Texts.{content_of-saved_text, saved_text-content_of}
use Rattle.saved_run.proofs.loading.load.Goals as goal

pub returns-in_err-head-clause-spelled : goal.returns-in_err-head-clause-spelled
returns-in_err-head-clause-spelled c = saved_text-content_of c.args.bytes.now

pub returns-in_err-head-clause-read : goal.returns-in_err-head-clause-read
returns-in_err-head-clause-read c = content_of-saved_text

pub returns-in-Some-clause-spelled : goal.returns-in-Some-clause-spelled
returns-in-Some-clause-spelled c = saved_text-content_of c.args.bytes.now

pub returns-in-Some-clause-read : goal.returns-in-Some-clause-read
returns-in-Some-clause-read c = content_of-saved_text

pub returns-in-None-clause-read : goal.returns-in-None-clause-read
returns-in-None-clause-read c = content_of-saved_text

pub returns-in_err-head-clause-one_state : goal.returns-in_err-head-clause-one_state
returns-in_err-head-clause-one_state c = λ net other u t agree within. states-same net other u agree t within

pub returns-in_err-head-clause-edited : goal.returns-in_err-head-clause-edited
returns-in_err-head-clause-edited c = edited-has_true_start

pub returns-in-Some-clause-one_state : goal.returns-in-Some-clause-one_state
returns-in-Some-clause-one_state c = λ net other u t agree within. states-same net other u agree t within

pub returns-in-Some-clause-edited : goal.returns-in-Some-clause-edited
returns-in-Some-clause-edited c = edited-has_true_start

pub returns-in-None-clause-one_state : goal.returns-in-None-clause-one_state
returns-in-None-clause-one_state c = λ net other u t agree within. states-same net other u agree t within

pub returns-in-None-clause-edited : goal.returns-in-None-clause-edited
returns-in-None-clause-edited c = edited-has_true_start
