-- Of nodes: what no call of the desk and no law rests on.
pub mod Houses
