use Rattle.sl_terminal_count.proofs.counting.shown.Goals as goal

pub returns-in-Seats : goal.returns-in-Seats
returns-in-Seats g c = record { delivers = rw c.in-Seats.is c.count.ensures.delivers }

pub returns-in-Steps : goal.returns-in-Steps
returns-in-Steps g c = record { delivers = rw c.in-Steps.is c.steps.ensures.delivers }

pub returns-in-Stage : goal.returns-in-Stage
returns-in-Stage g c = record { delivers = rw c.in-Stage.is c.stage.ensures.delivers }
