-- Of scopes: what no call of the desk and no law rests on.
pub mod Walks
